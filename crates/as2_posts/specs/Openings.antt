-- A post whose head is in order as far as its content type.
use Rattle.std.specs.Prelude.{Option, option_map}
use Rattle.as2_exchange.specs.Agreement.{Text}
use Rattle.as2_exchange.specs.Versions.{Digests}
use Rattle.as2_exchange.specs.Readings.{Head, MediaType, Receipt, report_in}
use Rattle.as2_exchange.specs.Posts.{ReceivedReceipt, PostReading, received_receipt, report_posted, document_posted, read_further}
use Rattle.as2_posts.specs.declared.opening.Opened.{Opened}

-- the names that a post came under, and its content type
abbrev pub names_in : Opened → Text × Text
names_in opened = (opened.from, opened.to)

abbrev pub opened_type : Opened → MediaType × Text
opened_type opened = (opened.media, opened.content_type.now)

-- the receipt that came so, where these digests are known
abbrev pub receipt_by : Digests → Opened → Receipt → Text → ReceivedReceipt
receipt_by known opened receipt body = received_receipt known (names_in opened) (opened_type opened) body receipt

-- a post that came so is read as a receipt, or as a document
abbrev pub report_by : Digests → Opened → Text → PostReading
report_by known opened body = report_posted known (names_in opened) (opened_type opened) body

abbrev pub document_by : Digests → Opened → Head → Text → PostReading
document_by known opened head body = document_posted known (names_in opened) (opened_type opened) head body

abbrev pub reading_by : Digests → Opened → Head → Text → PostReading
reading_by known opened head body = read_further known (names_in opened) (opened_type opened) head body

-- the receipt that came so, where the body can be read as one
abbrev pub receipt_as : Digests → Opened → Text → Option ReceivedReceipt
receipt_as known opened body = option_map (λ (receipt : Receipt). receipt_by known opened receipt body) (report_in opened.media body)
