-- What the answered events say of the tries of a document: whether one is open, and from which moment on something is due.
use Rattle.std.specs.Prelude.{ℕ, ◌+◌, Bool, ◌&&◌, List, Option, Some, None, option_map, option_and_then, is_some, nat_le, if◌then◌else◌}
use Rattle.std.specs.List.{list_any}
use Rattle.std.specs.Option.{option_map_or}
use Rattle.as2_exchange.specs.Agreement.{Agreements, Partner, Asked, NoReceipt, Sync, Async, partner_of}
use Rattle.as2_exchange.specs.Detail.{Attempt, Idle, Running, Last}
use Rattle.as2_exchange.specs.State.{OutEntry}
use Rattle.as2_exchange.specs.Events.{TryAnswer, AnsweredEvent}
use Rattle.as2_exchange.specs.Posts.{ReceivedReceipt}
use Rattle.as2_exchange.specs.Receipts.{is_delivery}
use Rattle.as2_exchange.specs.History.{FoundAt, Submission, Fact, concerns, first_of, last_of, try_in, resend_in, since_resent, outcome_in, tries, first_receipt, is_tick_from}

-- a try, with what stands after it, and its Outcome
abbrev pub TryWithOutcome : Type 0
TryWithOutcome = FoundAt ℕ Fact × Option (FoundAt (ℕ × TryAnswer) Fact)

abbrev pub with_outcome : FoundAt ℕ Fact → TryWithOutcome
with_outcome t = (t, first_of outcome_in t.after)

-- the last try, with its Outcome where it has one
abbrev pub last_tried : List Fact → Option TryWithOutcome
last_tried facts = option_map with_outcome (last_of try_in facts)

-- A try is open where it is the last one, has no Outcome, and no receipt came. Its number tells whether it is the last agreed
-- one.
abbrev pub attempt_of : Partner → ℕ → Option (ℕ × ReceivedReceipt) → Option TryWithOutcome → Attempt
attempt_of p tried (Some r) l = Idle
attempt_of p tried None None = Idle
attempt_of p tried None (Some (t, None)) = if nat_le p.max_tries tried then Last else Running
attempt_of p tried None (Some (t, Some o)) = Idle

-- after a try that failed at moment m: the next one, where there is one
abbrev pub due_after_failure : Partner → ℕ → ℕ → Option ℕ
due_after_failure p tried m = if nat_le p.max_tries tried then None else Some (m + p.retry_seconds)

-- after an answer of success at moment m: an awaited receipt, until a Tick finds it overdue
abbrev pub due_after_delivery : Asked → Partner → ℕ → ℕ → List Fact → Option ℕ
due_after_delivery Async p tried m after = if list_any (is_tick_from (m + p.overdue_seconds)) after then None else Some (m + p.overdue_seconds)
due_after_delivery NoReceipt p tried m after = None
due_after_delivery Sync p tried m after = due_after_failure p tried m

-- the moment from which on it is to be sent: that of the last resend, or of its submission where there is none
abbrev pub queued_from : Submission → List Fact → ℕ
queued_from d facts = option_map_or (λ (r : FoundAt ℕ Fact). r.it) (last_of resend_in facts) d.moment

-- When something is due. Once a receipt came: nothing. Before any try: the first one, at the moment from which on it is to be sent.
-- Behind the last try, at moment t: the next one, or the end of the last one, until a Tick has come to that. Behind its Outcome:
-- what that calls for.
abbrev pub due_of : ℕ → Partner → ℕ → Option (ℕ × ReceivedReceipt) → Option TryWithOutcome → Option ℕ
due_of from p tried (Some r) l = None
due_of from p tried None None = Some from
due_of from p tried None (Some (t, None)) = if nat_le p.max_tries tried && list_any (is_tick_from (t.it + p.retry_seconds)) t.after then None else Some (t.it + p.retry_seconds)
due_of from p tried None (Some (t, Some o)) = if is_delivery o.it.1 then due_after_delivery p.receipt p tried o.it.0 o.after else due_after_failure p tried o.it.0

-- ---- what a document waits for

pub record Schedule : Type 0 where
  pub begun : Bool
  pub attempt : Attempt
  pub due : Option ℕ

-- whether a try of it ever began, whether one is open, and when something is due
abbrev pub schedule_of : OutEntry → Schedule
schedule_of d = record { begun = d.begun; attempt = d.attempt; due = d.due }

-- the same, by the facts after its submission
abbrev pub waiting_by : Agreements → ℕ → Submission → List Fact → Partner → Schedule
waiting_by A k d facts p =
    record {
      begun = is_some (last_of try_in facts);
      attempt = attempt_of p (tries (since_resent facts)) (first_receipt A k d facts) (last_tried (since_resent facts));
      due = due_of (queued_from d facts) p (tries (since_resent facts)) (first_receipt A k d facts) (last_tried (since_resent facts));
    }

-- What the answered events say of the tries of document k; nothing, where it was not submitted.
abbrev pub waiting_history : Agreements → List AnsweredEvent → ℕ → Option Schedule
waiting_history A done k = option_and_then (λ (c : Submission × List Fact). option_map (waiting_by A k c.0 c.1) (partner_of A c.0.partner)) (concerns A done k)
