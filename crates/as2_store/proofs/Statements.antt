-- The texts of the statements.
use Rattle.std.specs.Prelude.{codes, List, ℕ}
use Rattle.as2_store.specs.declared.contents.Mailbox.{Mailbox}
use Rattle.as2_store.specs.declared.contents.Mailbox.TheVariants.{Inbox, Outbox}

-- ---- the tables

abbrev pub meta_text : List ℕ
meta_text = codes "CREATE TABLE meta (kind TEXT NOT NULL, version INTEGER NOT NULL, next_receipt INTEGER NOT NULL, next_document INTEGER NOT NULL) STRICT"

abbrev pub inbox2_text : List ℕ
inbox2_text = codes "CREATE TABLE inbox2 (number INTEGER PRIMARY KEY, sender BLOB NOT NULL, receiver BLOB NOT NULL, identifier_value BLOB NOT NULL, identifier BLOB NOT NULL, content_type BLOB NOT NULL, length INTEGER NOT NULL, moment INTEGER NOT NULL, outcome INTEGER NOT NULL CHECK (outcome >= 1 AND outcome <= 6), how INTEGER NOT NULL, url BLOB, digest TEXT CHECK (digest = 'sha1' OR digest = 'md5' OR digest = 'sha-256'), mic BLOB, mdn INTEGER NOT NULL, tries INTEGER NOT NULL, attempt INTEGER NOT NULL, due INTEGER, UNIQUE (sender, receiver, identifier_value)) STRICT"

abbrev pub inbox2_piece_text : List ℕ
inbox2_piece_text = codes "CREATE TABLE inbox2_piece (number INTEGER NOT NULL REFERENCES inbox2 (number), position INTEGER NOT NULL, bytes BLOB NOT NULL, PRIMARY KEY (number, position)) STRICT"

abbrev pub outbox_text : List ℕ
outbox_text = codes "CREATE TABLE outbox (number INTEGER PRIMARY KEY, organization BLOB NOT NULL, partner BLOB NOT NULL, identifier_value BLOB NOT NULL UNIQUE, identifier BLOB NOT NULL, length INTEGER NOT NULL, moment INTEGER NOT NULL, tries INTEGER NOT NULL, attempt INTEGER NOT NULL, due INTEGER, detail INTEGER NOT NULL CHECK (detail >= 1 AND detail <= 14)) STRICT"

abbrev pub outbox_piece_text : List ℕ
outbox_piece_text = codes "CREATE TABLE outbox_piece (number INTEGER NOT NULL REFERENCES outbox (number), position INTEGER NOT NULL, bytes BLOB NOT NULL, PRIMARY KEY (number, position)) STRICT"

abbrev pub evidence_statement : List ℕ
evidence_statement = codes "CREATE TABLE evidence (number INTEGER PRIMARY KEY REFERENCES outbox (number), moment INTEGER NOT NULL, content_type BLOB NOT NULL, body BLOB NOT NULL) STRICT"

abbrev pub waiting_text : List ℕ
waiting_text = codes "CREATE TABLE waiting (place INTEGER PRIMARY KEY, kind INTEGER NOT NULL, number INTEGER NOT NULL, due INTEGER, UNIQUE (kind, number)) STRICT"

abbrev pub waiting_due_text : List ℕ
waiting_due_text = codes "CREATE INDEX waiting_due ON waiting (kind, due, number)"

abbrev pub origin_text : List ℕ
origin_text = codes "CREATE TABLE origin (number INTEGER NOT NULL) STRICT"

abbrev pub resent_text : List ℕ
resent_text = codes "CREATE TABLE resent (number INTEGER PRIMARY KEY REFERENCES outbox (number)) STRICT"

-- ---- the counters

abbrev pub meta_put_text : List ℕ
meta_put_text = codes "INSERT INTO meta (kind, version, next_receipt, next_document) VALUES ('as2-station', 3, ?1, ?1)"

abbrev pub meta_read_text : List ℕ
meta_read_text = codes "SELECT kind, version, next_receipt, next_document FROM meta"

abbrev pub receipt_text : List ℕ
receipt_text = codes "UPDATE meta SET next_receipt = ?2 WHERE next_receipt = ?1"

abbrev pub document_text : List ℕ
document_text = codes "UPDATE meta SET next_document = ?2 WHERE next_document = ?1"

-- ---- the inbox

abbrev pub in_put_text : List ℕ
in_put_text = codes "INSERT INTO inbox2 (number, sender, receiver, identifier_value, identifier, content_type, length, moment, outcome, how, url, digest, mic, mdn, tries, attempt, due) VALUES (?1, ?2, ?3, ?4, ?5, ?6, ?7, ?8, ?9, ?10, ?11, ?12, ?13, ?14, ?15, ?16, ?17)"

-- a piece of a content
abbrev pub piece_put_text : Mailbox → List ℕ
piece_put_text Inbox = codes "INSERT INTO inbox2_piece (number, position, bytes) VALUES (?1, ?2, ?3)"
piece_put_text Outbox = codes "INSERT INTO outbox_piece (number, position, bytes) VALUES (?1, ?2, ?3)"

abbrev pub receipt_stage_text : List ℕ
receipt_stage_text = codes "SELECT mdn FROM inbox2 ORDER BY number"

abbrev pub in_by_key_text : List ℕ
in_by_key_text = codes "SELECT number, sender, receiver, identifier_value, identifier, content_type, length, moment, outcome, how, url, digest, mic, mdn, tries, attempt, due FROM inbox2 WHERE sender = ?1 AND receiver = ?2 AND identifier_value = ?3 ORDER BY number"

abbrev pub in_by_number_text : List ℕ
in_by_number_text = codes "SELECT number, sender, receiver, identifier_value, identifier, content_type, length, moment, outcome, how, url, digest, mic, mdn, tries, attempt, due FROM inbox2 WHERE number = ?1 ORDER BY number"

abbrev pub in_all_text : List ℕ
in_all_text = codes "SELECT number, sender, receiver, identifier_value, identifier, content_type, length, moment, outcome, how, url, digest, mic, mdn, tries, attempt, due FROM inbox2 ORDER BY number"

abbrev pub in_pieces_text : List ℕ
in_pieces_text = codes "SELECT number, position, bytes FROM inbox2_piece WHERE number = ?1 ORDER BY position"

abbrev pub in_set_text : List ℕ
in_set_text = codes "UPDATE inbox2 SET mdn = ?2, tries = ?3, attempt = ?4, due = ?5 WHERE number = ?1"

-- ---- the outbox

abbrev pub out_put_text : List ℕ
out_put_text = codes "INSERT INTO outbox (number, organization, partner, identifier_value, identifier, length, moment, tries, attempt, due, detail) VALUES (?1, ?2, ?3, ?4, ?5, ?6, ?7, ?8, ?9, ?10, ?11)"

abbrev pub detail_text : List ℕ
detail_text = codes "SELECT detail FROM outbox ORDER BY number"

abbrev pub out_by_id_text : List ℕ
out_by_id_text = codes "SELECT number, organization, partner, identifier_value, identifier, length, moment, tries, attempt, due, detail FROM outbox WHERE identifier_value = ?1 ORDER BY number"

abbrev pub out_by_number_text : List ℕ
out_by_number_text = codes "SELECT number, organization, partner, identifier_value, identifier, length, moment, tries, attempt, due, detail FROM outbox WHERE number = ?1 ORDER BY number"

abbrev pub out_by_details_text : List ℕ
out_by_details_text = codes "SELECT number, organization, partner, identifier_value, identifier, length, moment, tries, attempt, due, detail FROM outbox WHERE detail >= ?1 AND detail <= ?2 ORDER BY number"

abbrev pub out_pieces_text : List ℕ
out_pieces_text = codes "SELECT number, position, bytes FROM outbox_piece WHERE number = ?1 ORDER BY position"

abbrev pub settled_text : List ℕ
settled_text = codes "SELECT number FROM evidence ORDER BY number"

abbrev pub evidence_by_number_text : List ℕ
evidence_by_number_text = codes "SELECT number, moment, content_type, body FROM evidence WHERE number = ?1 ORDER BY number"

abbrev pub evidence_put_text : List ℕ
evidence_put_text = codes "INSERT INTO evidence (number, moment, content_type, body) VALUES (?1, ?2, ?3, ?4)"

abbrev pub out_set_text : List ℕ
out_set_text = codes "UPDATE outbox SET tries = ?2, attempt = ?3, due = ?4, detail = ?5 WHERE number = ?1"

abbrev pub out_pass_text : List ℕ
out_pass_text = codes "UPDATE outbox SET due = NULL, detail = ?2 WHERE number = ?1"

abbrev pub out_settle_text : List ℕ
out_settle_text = codes "UPDATE outbox SET attempt = 1, due = NULL, detail = ?2 WHERE number = ?1"

-- ---- what waits

abbrev pub waiting_put_text : List ℕ
waiting_put_text = codes "INSERT INTO waiting (place, kind, number, due) VALUES (?1, ?2, ?3, ?4)"

abbrev pub any_due_text : List ℕ
any_due_text = codes "SELECT number FROM waiting WHERE kind = ?1 AND due <= ?2 LIMIT 1"

abbrev pub all_due_text : List ℕ
all_due_text = codes "SELECT number FROM waiting WHERE kind = ?1 AND due <= ?2 ORDER BY place"

abbrev pub least_due_text : List ℕ
least_due_text = codes "SELECT number FROM waiting WHERE place >= ?1 AND place < ?2 AND due <= ?3 ORDER BY place LIMIT 1"

abbrev pub waiting_read_text : List ℕ
waiting_read_text = codes "SELECT place, kind, number, due FROM waiting ORDER BY place"

abbrev pub waiting_take_text : List ℕ
waiting_take_text = codes "DELETE FROM waiting WHERE place = ?1"

abbrev pub waiting_take_due_text : List ℕ
waiting_take_due_text = codes "DELETE FROM waiting WHERE kind = ?1 AND due <= ?2"

-- ---- the origin, and what was sent anew

abbrev pub origin_put_text : List ℕ
origin_put_text = codes "INSERT INTO origin (number) VALUES (?1)"

abbrev pub origin_read_text : List ℕ
origin_read_text = codes "SELECT number FROM origin"

abbrev pub resent_put_text : List ℕ
resent_put_text = codes "INSERT INTO resent (number) VALUES (?1)"

abbrev pub resent_take_text : List ℕ
resent_take_text = codes "DELETE FROM resent WHERE number = ?1"

abbrev pub resent_read_text : List ℕ
resent_read_text = codes "SELECT number FROM resent WHERE number = ?1 ORDER BY number"

abbrev pub tried_text : List ℕ
tried_text = codes "SELECT number FROM outbox WHERE number = ?1 AND tries >= 1 ORDER BY number"

-- ---- a migration

abbrev pub copy_inbox_text : List ℕ
copy_inbox_text = codes "INSERT INTO inbox2 (number, sender, receiver, identifier_value, identifier, content_type, length, moment, outcome, how, url, digest, mic, mdn, tries, attempt, due) SELECT number, sender, receiver, identifier_value, identifier, content_type, length, moment, outcome, how, url, digest, mic, mdn, tries, attempt, due FROM inbox ORDER BY number"

abbrev pub copy_below_text : List ℕ
copy_below_text = codes "INSERT INTO inbox2_piece (number, position, bytes) SELECT number, position, bytes FROM inbox_piece WHERE number < ?1"

abbrev pub clear_below_text : List ℕ
clear_below_text = codes "DELETE FROM inbox_piece WHERE number < ?1"

abbrev pub copy_piece_text : List ℕ
copy_piece_text = codes "INSERT INTO inbox2_piece (number, position, bytes) SELECT number, position, bytes FROM inbox_piece"

abbrev pub clear_piece_text : List ℕ
clear_piece_text = codes "DELETE FROM inbox_piece"

abbrev pub clear_inbox_text : List ℕ
clear_inbox_text = codes "DELETE FROM inbox"

abbrev pub version_text : List ℕ
version_text = codes "UPDATE meta SET version = 3"
