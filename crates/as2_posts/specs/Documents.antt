-- What a head asks of the receipt, and what a posted document is read as.
use Rattle.std.specs.Prelude.{◌≡◌, Result, Ok, Err}
use Rattle.as2_text.specs.ReceiptRequests as requests
use Rattle.as2_text.specs.ReceiptRequests.{Request}
use Rattle.as2_exchange.specs.declared.answer.Line.{Line}
use Rattle.as2_exchange.specs.Readings.{Head}
use Rattle.as2_exchange.specs.declared.inbox.Posted.{Posted}
use Rattle.as2_exchange.specs.Posts.{PostReading, Refuses, IsDocument}

-- the head asks that
abbrev pub is_asked : Head → Request → Type 0
is_asked head request = requests.request_reading head ≡ Ok request

-- a post that is this document, or is refused by this line
abbrev pub read_as : Result Posted Line → PostReading
read_as (Ok document) = IsDocument document
read_as (Err line) = Refuses line
