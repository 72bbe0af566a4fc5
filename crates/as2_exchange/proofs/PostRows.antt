-- Worked rows of what a post is read as, and at the end of runs with their answers.
-- The plan: heads are made from their fields (`message`), and each row tells one view of what the post is read as: the line that refuses it,
-- its sender with its type and outcome, its digest. A new line of refusal wants a row in `refused_posts` and one in `first_line_that_fits`.
use Rattle.std.proofs.Common.{◌≡◌, ℕ, [], ◌∷◌, Option, Some, None, refl}
use Rattle.std.specs.Prelude.{codes, replicate, option_map}
use Rattle.as2_names.specs.Blanks.{without_blanks}
use Rattle.as2_names.specs.Identifiers.{without_brackets as bare}
use Rattle.as2_media.specs.Values.{between_quotes}
use Rattle.as2_exchange.specs.Agreement.{Text, Alg, Sha1, Md5}
use Rattle.as2_exchange.specs.Readings.{Head, ReceiptDelivery, NoReceipt, Sync, Outcome, Processed, DecryptionFailed}
use Rattle.as2_exchange.specs.Readings.{DecompressionFailed, AuthenticationFailed, UnsupportedFormat, UnsupportedMicAlgorithms}
use Rattle.as2_exchange.specs.Readings.{names_of, version_fits, type_of, is_report, report_in, id_of, value_of, ask_of}
use Rattle.as2_exchange.specs.State.{AllDigests}
use Rattle.as2_exchange.specs.Events.{Post, Nothing, Words, Line, BadNames, BadVersion, UnknownNames, BadType}
use Rattle.as2_exchange.specs.Events.{UnreadableReceipt, BadId, BadAsk, IdUsedBefore, NotProcessed}
use Rattle.as2_exchange.specs.Lines.{http, status_of}
use Rattle.as2_exchange.specs.Posts.{PostReading, Refuses, IsDocument, post_reading}
use Rattle.as2_exchange.specs.Recording.{record_post, answer_to}
use Rattle.as2_exchange.proofs.Fixture.{fixture, abc, sha1_mic, q_type_text, m1, posts_read}
use Rattle.as2_exchange.proofs.Rows.{play, new_store}

-- a head: version, sender, identifier, content type, and what else stands there
abbrev message : Text → Text → Text → Text → Head → Head
message version from id type more =
    (codes "as2-version", version)
    ∷ (codes "as2-from", from)
    ∷ (codes "as2-to", codes "Supplier")
    ∷ (codes "message-id", id)
    ∷ (codes "content-type", type)
    ∷ more

abbrev edi : Text
edi = codes "application/edi-x12"

-- what asks for a receipt with these options
abbrev asks : Text → Head
asks options = (codes "disposition-notification-to", codes "a@x") ∷ (codes "disposition-notification-options", options) ∷ []

abbrev usual : Head
usual = asks (codes "signed-receipt-micalg=optional, sha1")

abbrev read : Head → PostReading
read head = post_reading fixture AllDigests head abc

-- the line that refuses a post, with its status
abbrev refusal_told : PostReading → Option (ℕ × Line)
refusal_told (Refuses line) = Some (status_of line, line)
refusal_told other = None

-- the lines that refuse a post
refused_posts : (refusal_told (read []) ≡ Some (400, BadNames))
    × (refusal_told (read (message (codes "1.0") (replicate 129 120) m1 edi usual)) ≡ Some (400, BadNames))
    × (refusal_told (read (message (codes "1.0") (codes "Buyer") m1 edi ((codes "as2-from", codes "Buyer") ∷ usual))) ≡ Some (400, BadNames))
    × (refusal_told (read (message (codes "2.0") (codes "Buyer") m1 edi usual)) ≡ Some (400, BadVersion))
    × (refusal_told (read (message (codes "1.10") (codes "Buyer") m1 edi usual)) ≡ Some (400, BadVersion))
    × (refusal_told (read (message (codes "1.0") (codes "Nobody") m1 edi usual)) ≡ Some (403, UnknownNames))
    × (refusal_told (read (message (codes "1.0") (codes "buyer") m1 edi usual)) ≡ Some (403, UnknownNames))
    × (refusal_told (read (message (codes "1.0") (codes "Buyer") m1 (codes "edi") usual)) ≡ Some (400, BadType))
    × (refusal_told (read (message (codes "1.0") (codes "Buyer") m1 q_type_text usual)) ≡ Some (400, UnreadableReceipt))
    × (refusal_told (read (message (codes "1.0") (codes "Buyer") (codes "<>") edi usual)) ≡ Some (400, BadId))
    × (refusal_told (read (message (codes "1.0") (codes "Buyer") m1 edi ((codes "message-id", m1) ∷ usual))) ≡ Some (400, BadId))
    × (refusal_told (read (message (codes "1.0") (codes "Buyer") m1 edi (asks (codes "x")))) ≡ Some (400, BadAsk))
unfolding post_reading names_of version_fits type_of is_report report_in id_of ask_of without_blanks between_quotes bare
refused_posts = (refl, refl, refl, refl, refl, refl, refl, refl, refl, refl, refl, refl)

-- where several lines fit, it is the first
first_line_that_fits : (refusal_told (read (message (codes "2.0") [] (codes "<>") (codes "edi") (asks (codes "x")))) ≡ Some (400, BadNames))
    × (refusal_told (read (message (codes "2.0") (codes "Nobody") (codes "<>") (codes "edi") (asks (codes "x")))) ≡ Some (400, BadVersion))
    × (refusal_told (read (message (codes "1.0") (codes "Nobody") (codes "<>") (codes "edi") (asks (codes "x")))) ≡ Some (403, UnknownNames))
    × (refusal_told (read (message (codes "1.9") (codes "Buyer") (codes "<>") (codes "edi") (asks (codes "x")))) ≡ Some (400, BadType))
    × (refusal_told (read (message (codes "1.0") (codes "Buyer") (codes "<>") edi (asks (codes "x")))) ≡ Some (400, BadId))
unfolding post_reading names_of version_fits type_of is_report id_of ask_of without_blanks between_quotes bare
first_line_that_fits = (refl, refl, refl, refl, refl)

-- a field that is given twice; a receiver that is no organization
given_twice : (refusal_told (read (message (codes "1.0") (codes "Buyer") m1 edi ((codes "as2-version", codes "1.0") ∷ usual))) ≡ Some (400, BadVersion))
    × (refusal_told (read (message (codes "1.0") (codes "Buyer") m1 edi ((codes "content-type", edi) ∷ usual))) ≡ Some (400, BadType))
    × (refusal_told (read (message (codes "1.0") (codes "Buyer") m1 edi ((codes "disposition-notification-to", codes "a@x") ∷ usual))) ≡ Some (400, BadAsk))
    × (refusal_told (read ((codes "as2-from", codes "Buyer") ∷ (codes "as2-to", codes "Buyer") ∷ [])) ≡ Some (403, UnknownNames))
unfolding post_reading names_of version_fits type_of is_report id_of ask_of without_blanks between_quotes bare
given_twice = (refl, refl, refl, refl)

-- the version may be absent, and so may the content type
abbrev short_head : Head
short_head = (codes "as2-from", codes "Buyer") ∷ (codes "as2-to", codes "Supplier") ∷ (codes "message-id", m1) ∷ []

-- what a post is read as: its sender, content type, outcome, and how a receipt is asked for
abbrev seen_as : PostReading → Option (Text × Text × Outcome × ReceiptDelivery)
seen_as (IsDocument p) = Some (p.sender, p.content_type, p.outcome, p.how)
seen_as other = None

least_post : seen_as (read short_head) ≡ Some (codes "Buyer", codes "application/octet-stream", Processed, NoReceipt)
unfolding posts_read
least_post = refl

quoted_name : seen_as (read (message (codes "1.0") (codes "\"A \\\"B\\\" \\\\ C\"") m1 edi usual)) ≡ Some (codes "A \"B\" \\ C", edi, Processed, Sync)
unfolding posts_read
quoted_name = refl

-- what becomes of a document from Buyer
abbrev became_in : PostReading → Option Outcome
became_in (IsDocument p) = Some p.outcome
became_in other = None

abbrev became : Text → Head → Option Outcome
became type more = became_in (read (message (codes "1.0") (codes "Buyer") m1 type more))

compressed_and_enveloped : (became (codes "application/pkcs7-mime; smime-type=compressed-data") usual ≡ Some DecompressionFailed)
    × (became (codes "application/pkcs7-mime") usual ≡ Some DecryptionFailed)
unfolding posts_read
compressed_and_enveloped = (refl, refl)

signed_and_unsupported : (became (codes "multipart/signed; protocol=\"application/pkcs7-signature\"; micalg=sha1; boundary=\"b\"") usual
    ≡ Some AuthenticationFailed)
    × (became edi (asks (codes "signed-receipt-protocol=required, pkcs7-signature")) ≡ Some UnsupportedFormat)
    × (became edi ((codes "disposition-notification-options", codes "signed-receipt-protocol=required, pkcs7-signature") ∷ []) ≡ Some Processed)
    × (became edi ((codes "content-transfer-encoding", codes "base64") ∷ usual) ≡ Some UnsupportedFormat)
    × (became edi ((codes "content-transfer-encoding", codes "Binary") ∷ usual) ≡ Some Processed)
    × (became edi ((codes "content-encoding", codes "gzip") ∷ usual) ≡ Some UnsupportedFormat)
    × (became edi ((codes "content-encoding", codes "identity") ∷ usual) ≡ Some Processed)
unfolding posts_read
signed_and_unsupported = (refl, refl, refl, refl, refl, refl, refl)

-- the digest of the MIC
abbrev digest_in : PostReading → Option Alg
digest_in (IsDocument p) = option_map (λ mic. mic.digest) p.mic
digest_in other = None

abbrev digest_of : Text → Option Alg
digest_of options = digest_in (read (message (codes "1.0") (codes "Buyer") m1 edi (asks options)))

mic_algorithms : (became edi (asks (codes "signed-receipt-micalg=required, sha-384")) ≡ Some UnsupportedMicAlgorithms)
    × (digest_of (codes "signed-receipt-micalg=required, sha-384") ≡ None)
    × (digest_of (codes "signed-receipt-micalg=optional, sha-384") ≡ Some Sha1)
    × (digest_of (codes "signed-receipt-micalg=optional, sha-384, MD5, sha1") ≡ Some Md5)
unfolding posts_read
mic_algorithms = (refl, refl, refl, refl)

abbrev bare_head : Text → Head
bare_head id = message (codes "1.0") (codes "Buyer") id edi []

-- one value in two spellings is no repeat
identifier_spelling : play (λ s. s.next_in) new_store
    (Post (bare_head (codes "m1@x")) abc 1000 ∷ Post (bare_head m1) abc 1000 ∷ [])
    ≡ Some (http 200 Nothing ∷ http 409 (Words IdUsedBefore) ∷ [], 2)
unfolding play posts_read value_of record_post answer_to
identifier_spelling = refl

-- an absent content type and the same one spelled out repeat each other
absent_type_is_octets : play (λ s. s.next_in) new_store
    (Post short_head abc 1000 ∷ Post (message (codes "1.0") (codes "Buyer") m1 (codes "application/octet-stream") []) abc 1000 ∷ [])
    ≡ Some (http 200 Nothing ∷ http 200 Nothing ∷ [], 2)
unfolding play posts_read value_of record_post answer_to
absent_type_is_octets = rw sha1_mic refl

-- a document that isn't processed, and no receipt asked
unprocessed_without_receipt : play (λ s. s.next_in) new_store
    (Post (message (codes "1.0") (codes "Buyer") m1 (codes "application/pkcs7-mime") []) abc 1000 ∷ [])
    ≡ Some (http 400 (Words (NotProcessed DecryptionFailed)) ∷ [], 2)
unfolding play posts_read value_of record_post answer_to
unprocessed_without_receipt = refl
