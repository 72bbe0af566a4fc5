-- A receipt settles a document.
use Rattle.std.specs.Prelude.{ℕ, ◌+◌, ◌*◌, List}
use Rattle.as2_exchange.specs.State.{end_of_numbers}
use Rattle.as2_rows.specs.Waiting.{WaitingRow, to_send, to_hear, to_end}
use Rattle.as2_store.specs.Requeuing.{not_at}

-- where the row stands of what the document of this number waits for
abbrev pub place_of : ℕ → ℕ → ℕ
place_of kind n = kind * end_of_numbers + n

-- all but what the document of this number waits for: to be sent, to hear of its receipt, or the end of its last try
abbrev pub without_document : ℕ → List WaitingRow → List WaitingRow
without_document n ws = not_at (place_of to_end n) (not_at (place_of to_hear n) (not_at (place_of to_send n) ws))
