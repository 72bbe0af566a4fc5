-- Worked rows of the third digest, and of a store that is migrated to it, computed from the texts of the fixture.
-- The plan: what a post that asks for a digest is read as under each version, how it is answered before and after the migration, and what
-- a receipt with the third digest says. A fourth digest wants the same rows.
use Rattle.std.proofs.Common.{◌≡◌, ℕ, [], ◌∷◌, ◌++◌, Some, None, refl, ap}
use Rattle.std.specs.Prelude.{codes, length}
use Rattle.std.specs.Fmt.{digits}
use Rattle.sha2.specs.Sha256.{first_words, schedule, rounds, compress, hash_after, digest_bytes, sha256}
use Rattle.base64.proofs.OnLiterals.{base64_on_literals}
use Rattle.as2_names.specs.Blanks.{without_blanks}
use Rattle.as2_names.specs.Identifiers.{without_brackets as bare}
use Rattle.as2_media.specs.Values.{between_quotes}
use Rattle.as2_mic.specs.Mic.{mic, base64_text}
use Rattle.as2_mdn.specs.Receipts.{Mic as MicRead, Given}
use Rattle.as2_exchange.specs.Agreement.{Text, Alg, Sha1, Sha256}
use Rattle.as2_exchange.specs.Detail.{New, Idle, Processed, UnknownMic}
use Rattle.as2_exchange.specs.Readings.{Head, Sync as SyncReceipt, Processed as WasProcessed, ReceiptOut}
use Rattle.as2_exchange.specs.Readings.{receipt_bytes, report_in, verdict, named_by, value_of, out_id}
use Rattle.as2_exchange.specs.State.{State, Posted, FirstVersion, EarlyDigests, AllDigests, empty}
use Rattle.as2_exchange.specs.Events.{Post, Begin, Outcome, Answer, Settled, Words, Report, IdUsedBefore, Reply}
use Rattle.as2_exchange.specs.Posts.{IsDocument, post_reading}
use Rattle.as2_exchange.specs.Documents.{begun_document, closed_document}
use Rattle.as2_exchange.specs.Lines.{http}
use Rattle.as2_exchange.specs.Recording.{record_post, answer_to, receipt_out, first_entry}
use Rattle.as2_exchange.specs.Run.{migrated_state}
use Rattle.as2_exchange.proofs.Fixture.{buyer, fixture, abc, receipt_head, receipt_body, q_names, q_typed}
use Rattle.as2_exchange.proofs.Fixture.{q_media, tells, first_id, m1, sha1_text, sha1_mic, posts_read}
use Rattle.as2_exchange.proofs.Rows.{play, job_1, detail_1, new_store}
use Rattle.as2_exchange.proofs.TurnRows.{standing, with_document}

-- ---- the MIC of `abc`

sha256_of_abc : sha256 (codes "abc")
    ≡ 186 ∷ 120 ∷ 22 ∷ 191 ∷ 143 ∷ 1 ∷ 207 ∷ 234 ∷ 65 ∷ 65 ∷ 64 ∷ 222 ∷ 93 ∷ 174 ∷ 34 ∷ 35
    ∷ 176 ∷ 3 ∷ 97 ∷ 163 ∷ 150 ∷ 23 ∷ 122 ∷ 156 ∷ 180 ∷ 16 ∷ 255 ∷ 97 ∷ 242 ∷ 0 ∷ 21 ∷ 173 ∷ []
unfolding first_words schedule rounds compress hash_after digest_bytes sha256
sha256_of_abc = refl

abbrev sha256_text : Text
sha256_text = codes "ungWv48Bz+pBQUDeXa4iI7ADYaOWF3qctBD/YfIAFa0="

sha256_mic : mic Sha256 abc ≡ sha256_text
unfolding base64_on_literals
sha256_mic = ap base64_text sha256_of_abc

-- ---- posts that ask for it

-- the head of a post from Buyer, with what it lists as digests
unfoldable asking_for : Text → Head
asking_for list =
    (codes "as2-from", codes "Buyer")
    ∷ (codes "as2-to", codes "Supplier")
    ∷ (codes "message-id", m1)
    ∷ (codes "content-type", codes "application/edi-x12")
    ∷ (codes "disposition-notification-to", codes "a@x")
    ∷ (codes "disposition-notification-options", codes "signed-receipt-micalg=optional, " ++ list)
    ∷ []

-- what is made of one
abbrev made_of : Text → Alg → Text → Posted
made_of content digest text = record {
  sender = codes "Buyer";
  receiver = codes "Supplier";
  id = m1;
  content_type = codes "application/edi-x12";
  content = content;
  outcome = WasProcessed;
  how = SyncReceipt;
  mic = Some (record { digest = digest; text = text });
}

asked_alone : post_reading fixture AllDigests (asking_for (codes "sha-256")) abc ≡ IsDocument (made_of abc Sha256 sha256_text)
unfolding asking_for posts_read
asked_alone = ap (λ (text : Text). IsDocument (made_of abc Sha256 text)) sha256_mic

asked_first : post_reading fixture AllDigests (asking_for (codes "sha-256, sha1")) abc ≡ IsDocument (made_of abc Sha256 sha256_text)
unfolding asking_for posts_read
asked_first = ap (λ (text : Text). IsDocument (made_of abc Sha256 text)) sha256_mic

asked_behind : post_reading fixture AllDigests (asking_for (codes "sha1, sha-256")) abc ≡ IsDocument (made_of abc Sha1 sha1_text)
unfolding asking_for posts_read
asked_behind = ap (λ (text : Text). IsDocument (made_of abc Sha1 text)) sha1_mic

-- a store of the first version goes on to the next digest
asked_before : post_reading fixture EarlyDigests (asking_for (codes "sha-256, sha1")) abc ≡ IsDocument (made_of abc Sha1 sha1_text)
unfolding asking_for posts_read
asked_before = ap (λ (text : Text). IsDocument (made_of abc Sha1 text)) sha1_mic

other_content : post_reading fixture AllDigests (asking_for (codes "sha-256, sha1")) (codes "abd")
    ≡ IsDocument (made_of (codes "abd") Sha256 (mic Sha256 (codes "abd")))
unfolding asking_for posts_read
other_content = refl

-- the report of such a document, under the first number
abbrev report_of : Alg → Text → ReceiptOut
report_of digest text = receipt_out fixture 1 (made_of abc digest text)

abbrev answered_by : Alg → Text → Answer
answered_by digest text = http 200 (Report (report_of digest text) (receipt_bytes (report_of digest text)))

report_lengths : (length (receipt_bytes (report_of Sha256 sha256_text)) ≡ 416) × (length (receipt_bytes (report_of Sha1 sha1_text)) ≡ 397)
unfolding receipt_bytes digits
report_lengths = (refl, refl)

abbrev count : State → ℕ
count s = length s.inbox

new_post : play count new_store (Post (asking_for (codes "sha-256")) abc 1000 ∷ []) ≡ Some (answered_by Sha256 sha256_text ∷ [], 1)
unfolding play record_post answer_to
new_post = rw asked_alone refl

-- ---- a migration

-- a store of the first version, which took the document with SHA-1
abbrev before : State
before = record { version = FirstVersion; inbox = first_entry 1 1000 (made_of abc Sha1 sha1_text) ∷ []; outbox = []; next_in = 2; next_out = 1 }

posted_before : play (λ s. s) (empty FirstVersion 1) (Post (asking_for (codes "sha-256, sha1")) abc 1000 ∷ []) ≡ Some (answered_by Sha1 sha1_text ∷ [], before)
unfolding play record_post answer_to
posted_before = rw asked_before refl

-- the same post is answered alike, and adds no entry; another content under its identifier is a clash
posted_again : play count (migrated_state before)
    (Post (asking_for (codes "sha-256, sha1")) abc 2000 ∷ Post (asking_for (codes "sha-256, sha1")) (codes "abd") 2000 ∷ [])
    ≡ Some (answered_by Sha1 sha1_text ∷ http 409 (Words IdUsedBefore) ∷ [], 1)
unfolding play record_post answer_to value_of bare
posted_again = rw (asked_first, other_content) refl

-- what was recorded after the migration is compared whole
posted_since : play count (migrated_state (empty FirstVersion 1))
    (Post (asking_for (codes "sha1, sha-256")) abc 1000 ∷ Post (asking_for (codes "sha-256, sha1")) abc 1000 ∷ [])
    ≡ Some (answered_by Sha1 sha1_text ∷ http 409 (Words IdUsedBefore) ∷ [], 1)
unfolding play record_post answer_to value_of bare
posted_since = rw (asked_behind, asked_first) refl

-- ---- receipts

abbrev sha256_given : MicRead
sha256_given = Given (sha256_text, codes "SHA256")

-- the receipt for document 1 with that MIC
unfoldable r : Text
r = receipt_body first_id (codes "processed") (codes "Received-content-MIC: ungWv48Bz+pBQUDeXa4iI7ADYaOWF3qctBD/YfIAFa0=, SHA256\r\n")

r_read : report_in q_media r ≡ Some (tells first_id (codes "processed", []) sha256_given)
unfolding receipt_body r report_in without_blanks between_quotes bare
r_read = refl

r_says : (verdict AllDigests (tells first_id (codes "processed", []) sha256_given) abc ≡ Processed)
    × (verdict EarlyDigests (tells first_id (codes "processed", []) sha256_given) abc ≡ UnknownMic)
unfolding verdict
r_says = (rw sha256_mic refl, refl)

-- it is a success to a store that knows the digest
settled_by_it : play detail_1 (with_document (standing 0 Idle (Some 1000) New None))
    (Begin 1 1000 ∷ Outcome 1 (Reply 200 (receipt_head (codes "Buyer")) r) 1000 ∷ [])
    ≡ Some (job_1 buyer ∷ Settled Processed ∷ [], Some Processed)
unfolding play begun_document closed_document named_by value_of digits out_id bare
settled_by_it = rw (q_names, q_typed, r_read, r_says.0) refl
