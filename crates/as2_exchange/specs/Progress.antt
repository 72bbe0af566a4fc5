-- How far documents have come: in which state they are, and which are new, awaited, under way or given up.
use Rattle.std.specs.Prelude.{ℕ, Bool, true, false, count_by, Option, Some, None}
use Rattle.as2_mdn.specs.Details.{class_of}
use Rattle.as2_mdn.specs.declared.detail.DetailClass.{DetailClass}
use Rattle.as2_mdn.specs.declared.detail.DetailClass.TheVariants.{P, R, S, W, E}
use Rattle.as2_exchange.specs.Detail.{Detail, New, Sending, Awaiting, Retry, TriesUsed, Overdue}
use Rattle.as2_exchange.specs.State.{State, OutEntry}

abbrev pub same_state : DetailClass → DetailClass → Bool
same_state P P = true
same_state R R = true
same_state S S = true
same_state W W = true
same_state E E = true
same_state a b = false

-- in this state, where one is asked for
abbrev pub is_in : Option DetailClass → OutEntry → Bool
is_in None d = true
is_in (Some state) d = same_state state (class_of d.detail)

abbrev pub is_new : OutEntry → Bool
is_new d = by d.detail
  where
    by : Detail → Bool
    by New = true
    by other = false

abbrev pub is_awaited : OutEntry → Bool
is_awaited d = by d.detail
  where
    by : Detail → Bool
    by Awaiting = true
    by other = false

-- something is still to come of it
abbrev pub is_under_way : Detail → Bool
is_under_way New = true
is_under_way Sending = true
is_under_way Retry = true
is_under_way Awaiting = true
is_under_way other = false

-- no more is done for it: its receipt is overdue, or its tries are used up
abbrev pub is_given_up : Detail → Bool
is_given_up Overdue = true
is_given_up TriesUsed = true
is_given_up other = false

-- how many documents are given up
abbrev pub given_up : State → ℕ
given_up s = count_by (λ d. is_given_up d.detail) s.outbox
