-- The agreements and the texts of the worked rows, and what they are read as, computed from their bytes.
-- The plan: three partners of one organization, the content `abc` with its MICs, a receipt as Buyer's station writes it, and a posted document,
-- each with what it is read as. The rows of the other files are computed from these. A text that another row needs belongs here.
use Rattle.std.proofs.Common.{◌≡◌, [], ◌∷◌, ◌++◌, Some, refl, ap}
use Rattle.std.specs.Prelude.{codes, length, ⊤}
use Rattle.sha1.proofs.StandardFacts.{digest_of_abc as sha1_of_abc}
use Rattle.md5.proofs.StandardFacts.{digest_of_abc as md5_of_abc}
use Rattle.md5.specs.Md5.{block_words, rounds, compress, hash_after, digest_bytes, md5}
use Rattle.base64.proofs.OnLiterals.{base64_on_literals}
use Rattle.as2_names.specs.Blanks.{without_blanks}
use Rattle.as2_names.specs.Identifiers.{without_brackets as bare}
use Rattle.as2_media.specs.MediaTypes.{Media}
use Rattle.as2_media.specs.Values.{between_quotes}
use Rattle.as2_mic.specs.Mic.{mic, base64_text}
use Rattle.as2_mdn.specs.Receipts.{Mic as MicRead, Given}
use Rattle.as2_exchange.specs.Agreement.{Text, Agreements, Partner, Asked, NoReceipt, Sync, Async, Sha1, Md5}
use Rattle.as2_exchange.specs.Detail.{Processed}
use Rattle.as2_exchange.specs.Readings.{Head, Receipt, ReceiptDelivery, Sync as SyncReceipt, Async as AsyncReceipt}
use Rattle.as2_exchange.specs.Readings.{Processed as WasProcessed, names_of, version_fits, type_of, is_report, report_in}
use Rattle.as2_exchange.specs.Readings.{verdict, id_of, ask_of, how_of, document_outcome, encoding_refused, mic_for}
use Rattle.as2_exchange.specs.State.{Posted, AllDigests}
use Rattle.as2_exchange.specs.Posts.{IsDocument, IsReceipt, ReceivedReceipt, post_reading}

-- ---- what a row unfolds

-- to read a post
unfoldable pub posts_read : ⊤
unfolding post_reading names_of version_fits type_of is_report id_of ask_of how_of document_outcome encoding_refused mic_for without_blanks between_quotes bare
posts_read = tt

-- to read a receipt
unfoldable pub receipts_read : ⊤
unfolding post_reading names_of version_fits type_of is_report report_in without_blanks between_quotes bare
receipts_read = tt

-- ---- the agreements

abbrev pub partner_at : Text → Text → Asked → Partner
partner_at name url asked = record {
  name = name;
  url = url;
  receipt = asked;
  digest = Sha1;
  content_type = codes "application/edi-x12";
  max_tries = 2;
  retry_seconds = 30;
  overdue_seconds = 60;
}

abbrev pub buyer : Partner
buyer = partner_at (codes "Buyer") (codes "http://127.0.0.1:8081/as2") Sync

abbrev pub depot : Partner
depot = partner_at (codes "Depot") (codes "http://127.0.0.1:8082/as2") Async

abbrev pub quiet : Partner
quiet = partner_at (codes "A \"B\" \\ C") (codes "http://127.0.0.1:8083/as2") NoReceipt

abbrev pub fixture : Agreements
fixture = record {
  domain = codes "station.example";
  return_url = Some (codes "http://127.0.0.1:8080/as2");
  organizations = record { name = codes "Supplier" } ∷ [];
  partners = buyer ∷ depot ∷ quiet ∷ [];
}

abbrev pub abc : Text
abc = codes "abc"

-- ---- the MICs of `abc`

pub sha1_mic : mic Sha1 abc ≡ codes "qZk+NkcGgWq6PiVxeFDCbJzQ2J0="
unfolding base64_on_literals
sha1_mic = ap base64_text sha1_of_abc

pub md5_mic : mic Md5 abc ≡ codes "kAFQmDzST7DWlj99KOF/cg=="
unfolding base64_on_literals
md5_mic = ap base64_text md5_of_abc

-- ---- a receipt as Buyer's station writes it

-- the head of one from that partner
unfoldable pub receipt_head : Text → Head
receipt_head from =
    (codes "as2-from", from)
    ∷ (codes "as2-to", codes "Supplier")
    ∷ (codes "content-type", codes "multipart/report; report-type=disposition-notification; boundary=\"as2-mdn-7\"")
    ∷ []

-- the body of one: the identifier that it names, its disposition, and its line of the MIC
unfoldable pub receipt_body : Text → Text → Text → Text
receipt_body id disposition line =
    codes "--as2-mdn-7\r\nContent-Type: text/plain\r\n\r\nReceipt 7 for the message named below.\r\nOutcome: processed\r\n\r\n"
    ++ codes "--as2-mdn-7\r\nContent-Type: message/disposition-notification\r\n\r\nReporting-UA: as2-station\r\nFinal-Recipient: rfc822; Buyer\r\n"
    ++ codes "Original-Message-ID: " ++ id
    ++ codes "\r\nDisposition: automatic-action/MDN-sent-automatically; " ++ disposition
    ++ codes "\r\n" ++ line
    ++ codes "\r\n--as2-mdn-7--\r\n"

abbrev pub md5_line : Text
md5_line = codes "Received-content-MIC: kAFQmDzST7DWlj99KOF/cg==, md5\r\n"

-- the receipt for document 1
unfoldable pub q : Text
q = receipt_body (codes "<out-1@station.example>") (codes "processed") md5_line

q_has_406_bytes : length q ≡ 406
unfolding receipt_body q
q_has_406_bytes = refl

abbrev pub q_type_text : Text
q_type_text = codes "multipart/report; report-type=disposition-notification; boundary=\"as2-mdn-7\""

abbrev pub q_media : Media
q_media = record {
  type_name = codes "multipart";
  subtype = codes "report";
  parameters = (codes "report-type", codes "disposition-notification") ∷ (codes "boundary", codes "as2-mdn-7") ∷ [];
}

-- what a receipt for the document of that number tells
abbrev pub tells : Text → Text × Text → MicRead → Receipt
tells id disposition given = record { original_id = id; disposition = disposition; mic = given }

abbrev pub md5_given : MicRead
md5_given = Given (codes "kAFQmDzST7DWlj99KOF/cg==", codes "md5")

-- the receipt as it came from that partner
abbrev pub came_from : Text → Text → Text → ReceivedReceipt
came_from from id body = record {
  known = AllDigests;
  from = from;
  to = codes "Supplier";
  receipt = tells id (codes "processed", []) md5_given;
  content_type = q_type_text;
  body = body;
}

abbrev pub first_id : Text
first_id = codes "<out-1@station.example>"

pub q_names : names_of (receipt_head (codes "Buyer")) ≡ Some (codes "Buyer", codes "Supplier")
unfolding receipt_head names_of
q_names = refl

pub q_typed : type_of (receipt_head (codes "Buyer")) ≡ Some (q_media, q_type_text)
unfolding receipt_head type_of without_blanks between_quotes
q_typed = refl

pub q_read : report_in q_media q ≡ Some (tells first_id (codes "processed", []) md5_given)
unfolding receipt_body q report_in without_blanks between_quotes bare
q_read = refl

pub q_posted : post_reading fixture AllDigests (receipt_head (codes "Buyer")) q ≡ IsReceipt (came_from (codes "Buyer") first_id q)
unfolding receipt_head receipt_body q post_reading names_of version_fits type_of is_report report_in without_blanks between_quotes bare
q_posted = refl

pub q_says : verdict AllDigests (tells first_id (codes "processed", []) md5_given) abc ≡ Processed
unfolding verdict
q_says = rw md5_mic refl

-- under another partner's name
pub q_from_depot : post_reading fixture AllDigests (receipt_head (codes "Depot")) q ≡ IsReceipt (came_from (codes "Depot") first_id q)
unfolding receipt_head receipt_body q post_reading names_of version_fits type_of is_report report_in without_blanks between_quotes bare
q_from_depot = refl

-- naming another document
unfoldable pub q_for_2 : Text
q_for_2 = receipt_body (codes "<out-2@station.example>") (codes "processed") md5_line

pub q_for_2_posted : post_reading fixture AllDigests (receipt_head (codes "Buyer")) q_for_2
    ≡ IsReceipt (came_from (codes "Buyer") (codes "<out-2@station.example>") q_for_2)
unfolding receipt_head receipt_body q_for_2 post_reading names_of version_fits type_of is_report report_in without_blanks between_quotes bare
q_for_2_posted = refl

-- with LF in place of CRLF, and a third part
unfoldable pub q_in_lf : Text
q_in_lf =
    codes "--as2-mdn-7\nContent-Type: text/plain\n\nReceipt 7 for the message named below.\nOutcome: processed\n\n"
    ++ codes "--as2-mdn-7\nContent-Type: message/disposition-notification\n\nReporting-UA: as2-station\nFinal-Recipient: rfc822; Buyer\n"
    ++ codes "Original-Message-ID: <out-1@station.example>\nDisposition: automatic-action/MDN-sent-automatically; processed\n"
    ++ codes "Received-content-MIC: kAFQmDzST7DWlj99KOF/cg==, md5\n\n--as2-mdn-7\nContent-Type: text/plain\n\nthird\n--as2-mdn-7--\n"

pub q_in_lf_posted : post_reading fixture AllDigests (receipt_head (codes "Buyer")) q_in_lf ≡ IsReceipt (came_from (codes "Buyer") first_id q_in_lf)
unfolding receipt_head q_in_lf post_reading names_of version_fits type_of is_report report_in without_blanks between_quotes bare
q_in_lf_posted = refl

-- ---- a posted document

-- the head of one: sender, identifier, and what else is asked of the receipt
unfoldable pub post_head : Text → Text → Head → Head
post_head from id more =
    (codes "host", codes "127.0.0.1:8080")
    ∷ (codes "as2-version", codes "1.0")
    ∷ (codes "as2-from", from)
    ∷ (codes "as2-to", codes "Supplier")
    ∷ (codes "message-id", id)
    ∷ (codes "content-type", codes "application/edi-x12")
    ∷ (codes "disposition-notification-to", codes "a@x")
    ∷ (codes "disposition-notification-options", codes "signed-receipt-micalg=optional, sha1")
    ∷ (codes "content-length", codes "3")
    ∷ more

-- what is made of one
abbrev pub document_of : Text → Text → Text → ReceiptDelivery → Text → Posted
document_of from id content how text = record {
  sender = from;
  receiver = codes "Supplier";
  id = id;
  content_type = codes "application/edi-x12";
  content = content;
  outcome = WasProcessed;
  how = how;
  mic = Some (record { digest = Sha1; text = text });
}

abbrev pub sha1_text : Text
sha1_text = codes "qZk+NkcGgWq6PiVxeFDCbJzQ2J0="

abbrev pub m1 : Text
m1 = codes "<m1@x>"

pub p1_posted : post_reading fixture AllDigests (post_head (codes "Buyer") m1 []) abc
    ≡ IsDocument (document_of (codes "Buyer") m1 abc SyncReceipt sha1_text)
unfolding post_head posts_read
p1_posted = ap (λ (text : Text). IsDocument (document_of (codes "Buyer") m1 abc SyncReceipt text)) sha1_mic

-- with another content
pub p1_changed : post_reading fixture AllDigests (post_head (codes "Buyer") m1 []) (codes "abd")
    ≡ IsDocument (document_of (codes "Buyer") m1 (codes "abd") SyncReceipt (mic Sha1 (codes "abd")))
unfolding post_head posts_read
p1_changed = refl

-- under another identifier
pub p2_posted : post_reading fixture AllDigests (post_head (codes "Buyer") (codes "<m2@x>") []) abc
    ≡ IsDocument (document_of (codes "Buyer") (codes "<m2@x>") abc SyncReceipt sha1_text)
unfolding post_head posts_read
p2_posted = ap (λ (text : Text). IsDocument (document_of (codes "Buyer") (codes "<m2@x>") abc SyncReceipt text)) sha1_mic

-- the receipt is to come later, to an address
abbrev pub return_head : Head
return_head = (codes "receipt-delivery-option", codes "http://127.0.0.1:8082/mdn") ∷ []

pub p1_from_depot : post_reading fixture AllDigests (post_head (codes "Depot") m1 return_head) abc
    ≡ IsDocument (document_of (codes "Depot") m1 abc (AsyncReceipt (codes "http://127.0.0.1:8082/mdn")) sha1_text)
unfolding post_head posts_read
p1_from_depot =
    ap (λ (text : Text). IsDocument (document_of (codes "Depot") m1 abc (AsyncReceipt (codes "http://127.0.0.1:8082/mdn")) text)) sha1_mic

-- the MIC of no content
empty_content_md5 : mic Md5 [] ≡ codes "1B2M2Y8AsgTpgAmY7PhCfg=="
unfolding block_words rounds compress hash_after digest_bytes md5 base64_on_literals
empty_content_md5 = refl
