-- What a Tick counts.
use Rattle.std.proofs.Common.{◌≡◌, ℕ, ◌+◌, Bool, true, false, List, [], ◌∷◌, map, Some, None, refl, subst, arith}
use Rattle.std.specs.Prelude.{count_by, is_some, if◌then◌else◌}
use Rattle.std.proofs.lemmas.List.Sums.{sum_by-cons}
use Rattle.std.proofs.lemmas.Option.{same_Some}
use Rattle.as2_exchange.specs.Agreement.{Agreements}
use Rattle.as2_exchange.specs.Detail.{Detail, New, Sending, Awaiting, Retry, Processed, NoReceiptAsked, Warning, NoMic, UnknownMic}
use Rattle.as2_exchange.specs.Detail.{NotProcessed, ErrorModifier, MicDiffers, TriesUsed, Overdue, Attempt, Idle, Running, Last, Used}
use Rattle.as2_exchange.specs.State.{State, OutEntry}
use Rattle.as2_exchange.specs.Events.{Answer, Ticked, Tick}
use Rattle.as2_exchange.specs.Documents.{passes_at, passed_document, passes_into, tick}
use Rattle.as2_exchange.specs.Step.{step}
use Rattle.as2_exchange.specs.Tries.{is_due}
use Rattle.as2_exchange.specs.Progress.{is_given_up, given_up}

one_if : Bool → ℕ
one_if b = if b then 1 else 0

-- one more is given up exactly where a document passes
passing : (x : Detail) (a : Attempt) (d : OutEntry) → d.detail ≡ x
    → one_if (is_given_up (passed_document d (passes_into x a)).detail) ≡ one_if (is_given_up d.detail) + one_if (is_some (passes_into x a))
unfolding one_if
passing Awaiting a d h = rw h refl
passing Sending Last d h = rw h refl
passing Sending Idle d h = rw h refl
passing Sending Running d h = rw h refl
passing Sending Used d h = rw h refl
passing New a d h = rw h refl
passing Retry a d h = rw h refl
passing Processed a d h = rw h refl
passing NoReceiptAsked a d h = rw h refl
passing Warning a d h = rw h refl
passing NoMic a d h = rw h refl
passing UnknownMic a d h = rw h refl
passing NotProcessed a d h = rw h refl
passing ErrorModifier a d h = rw h refl
passing MicDiffers a d h = rw h refl
passing TriesUsed a d h = rw h refl
passing Overdue a d h = rw h refl

passing_if : (b : Bool) (d : OutEntry)
    → let o = (if b then passes_into d.detail d.attempt else None) in
    one_if (is_given_up (passed_document d o).detail) ≡ one_if (is_given_up d.detail) + one_if (is_some o)
unfolding one_if
passing_if true d = passing d.detail d.attempt d refl
passing_if false d = omega arith

counted : (m : ℕ) (ds : List OutEntry)
    → count_by (λ d. is_given_up d.detail) (map (λ d. passed_document d (passes_at m d)) ds)
    ≡ count_by (λ d. is_given_up d.detail) ds + count_by (λ d. is_some (passes_at m d)) ds
unfolding one_if
counted m [] = refl
counted m (d ∷ ds) =
    let later = map (λ (x : OutEntry). passed_document x (passes_at m x)) ds in
    let after = sum_by-cons (λ (x : OutEntry). if is_given_up x.detail then 1 else 0) (passed_document d (passes_at m d)) later in
    let before = sum_by-cons (λ (x : OutEntry). if is_given_up x.detail then 1 else 0) d ds in
    let passing = sum_by-cons (λ (x : OutEntry). if is_some (passes_at m x) then 1 else 0) d ds in
    let one = passing_if (is_due m d.due) d in
    omega (arith, after, before, passing, one, counted m ds)

tick_counted : (m : ℕ) (s : State) → (n : ℕ) × ((tick m s).0 ≡ Ticked n) × (given_up (tick m s).1 ≡ given_up s + n)
unfolding tick
tick_counted m s = (count_by (λ d. is_some (passes_at m d)) s.outbox, refl, counted m s.outbox)

pub ticked_counts : (A : Agreements) (s t : State) (m : ℕ) (a : Answer) → step A s (Tick m) ≡ Some (a, t) → (n : ℕ) × (a ≡ Ticked n)
    × (given_up t ≡ given_up s + n)
ticked_counts A s t m a h =
    subst (λ (y : Answer × State). (n : ℕ) × (y.0 ≡ Ticked n) × (given_up y.1 ≡ given_up s + n)) (same_Some _ (a, t) h) (tick_counted m s)
