-- What each write does to lists: `before` is what they stood for, as their fields say it.
use Rattle.std.proofs.Common.{◌≡◌, ℕ, ◌+◌, ◌<◌, Bool, true, false, List, [], ◌∷◌, ◌++◌, map, Option, Some, None, Ok, refl, sym, ap, ◌∙◌, subst, arith}
use Rattle.std.specs.Prelude.{◌==◌, ◌||◌, not, if◌then◌else◌, is_some, option_map, count_by}
use Rattle.std.specs.Option.{option_map_or}
use Rattle.std.proofs.lemmas.Bool.Decides.{nat_tests}
use Rattle.as2_exchange.proofs.Decisions.{is_some_value}
use Rattle.as2_exchange.specs.Documents.{passed_document, passes_at, settled_as, tick}
use Rattle.as2_exchange.specs.Invariants.{is_by_receipt}
use Rattle.as2_exchange.specs.State.{State, change_document, change_received, document, end_of_numbers, is_settled}
use Rattle.as2_exchange.specs.declared.answer.Answer.TheVariants.{Ticked}
use Rattle.as2_exchange.specs.declared.fault.StoreFault.{StoreFault}
use Rattle.as2_exchange.specs.declared.inbox.InEntry.{InEntry}
use Rattle.as2_exchange.specs.declared.outbox.Evidence.{Evidence}
use Rattle.as2_exchange.specs.declared.outbox.OutEntry.{OutEntry}
use Rattle.as2_mdn.specs.declared.detail.Detail.{Detail}
use Rattle.as2_records.specs.Adding.{state_with, added_document, with_received, with_document}
use Rattle.as2_records.specs.Calls.{Writes}
use Rattle.as2_records.specs.Expiring.{ticked_in}
use Rattle.as2_records.specs.Progressing.{come_to, set_out_in}
use Rattle.as2_records.specs.Resending.{queued_anew, resent_in}
use Rattle.as2_records.specs.Settling.{settled_in}
use Rattle.as2_records.specs.Standing.{IsCounted}
use Rattle.as2_records.specs.declared.progress.Progress.{Progress}
use Rattle.as2_lists.specs.Standing.{memory, lists_standing}
use Rattle.as2_lists.proofs.Calls.{Takes, writes_ok}
use Rattle.as2_lists.proofs.Counted.{received_counted, document_counted, one_received_counted, one_document_counted, outbox_counted}

-- the write takes what they stood for to this state, which is counted where that was
pub writes_from : {A : Type 0} (next : State → Option State) (s before t : State) (a : A) → before ≡ s → (IsCounted before → Takes next before t)
    → Writes {M = memory} {A = A} {E = StoreFault} next (lists_standing s) (lists_standing t) (Ok a)
writes_from {A = A} next s before t a is takes =
    subst (λ (z : State). Writes {M = memory} {A = A} {E = StoreFault} next (lists_standing z) (lists_standing t) (Ok a)) is (writes_ok next before t a takes)

-- ---- an entry more

if_equal : (k n : ℕ) (t : State) → k ≡ n → (if k == n then Some t else None) ≡ Some t
if_equal k n t is = by (k == n) (grind (arith, nat_tests))
  where
    by : (b : Bool) → b ≡ true → (if b then Some t else None) ≡ Some t
    by true so = refl
    by false so = absurd (cc)

pub takes_received : (s : State) (e : InEntry) (items : List InEntry) → e.number ≡ s.next_in → s.next_in < end_of_numbers → items ≡ s.inbox ++ e ∷ []
    → IsCounted s → Takes (state_with e) s (record s { inbox = items; next_in = s.next_in + 1 })
takes_received s e items is small new counted =
    subst (λ (l : List InEntry). Takes (state_with e) s (record s { inbox = l; next_in = s.next_in + 1 })) (sym new) (record {
      is = if_equal e.number s.next_in (with_received s e) is;
      counted = received_counted s e is small counted;
      version = refl;
    })

pub takes_document : (s : State) (d : OutEntry) (items : List OutEntry) → d.number ≡ s.next_out → s.next_out < end_of_numbers → items ≡ s.outbox ++ d ∷ []
    → IsCounted s → Takes (added_document d) s (record s { outbox = items; next_out = s.next_out + 1 })
takes_document s d items is small new counted =
    subst (λ (l : List OutEntry). Takes (added_document d) s (record s { outbox = l; next_out = s.next_out + 1 })) (sym new) (record {
      is = if_equal d.number s.next_out (with_document s d) is;
      counted = document_counted s d is small counted;
      version = refl;
    })

-- ---- an entry that is changed

pub takes_owed : (s : State) (n : ℕ) (f : InEntry → InEntry) (items : List InEntry) → ((e : InEntry) → (f e).number ≡ e.number)
    → items ≡ map (λ e. if e.number == n then f e else e) s.inbox → IsCounted s
    → Takes (λ t. Some (change_received t n f)) s (record s { inbox = items })
takes_owed s n f items kept new counted = subst (λ (l : List InEntry). Takes (λ t. Some (change_received t n f)) s (record s { inbox = l })) (sym new) (record {
  is = refl;
  counted = one_received_counted s n f kept counted;
  version = refl;
})

pub takes_set : (s : State) (n : ℕ) (p : Progress) (items : List OutEntry) → is_some (document s n) ≡ true
    → items ≡ map (λ d. if d.number == n then come_to p d else d) s.outbox → IsCounted s
    → Takes (set_out_in n p) s (record s { outbox = items })
takes_set s n p items there new counted = subst (λ (l : List OutEntry). Takes (set_out_in n p) s (record s { outbox = l })) (sym new) (record {
  is = ap (option_map (λ (d : OutEntry). change_document s n (come_to p))) (is_some_value (document s n) there).1;
  counted = one_document_counted s n (come_to p) (λ d. refl) counted;
  version = refl;
})

pub takes_queued : (s : State) (n m : ℕ) (items : List OutEntry) → is_some (document s n) ≡ true
    → items ≡ map (λ d. if d.number == n then queued_anew m d else d) s.outbox → IsCounted s
    → Takes (resent_in n m) s (record s { outbox = items })
takes_queued s n m items there new counted = subst (λ (l : List OutEntry). Takes (resent_in n m) s (record s { outbox = l })) (sym new) (record {
  is = ap (option_map (λ (d : OutEntry). change_document s n (queued_anew m))) (is_some_value (document s n) there).1;
  counted = one_document_counted s n (queued_anew m) (λ d. refl) counted;
  version = refl;
})

-- ---- a document that is settled

open_one : (b c : Bool) (t : State) → not b ≡ true → c ≡ true → (if b || not c then None else Some t) ≡ Some t
open_one false true t h g = refl
open_one true c t h g = absurd (cc)
open_one false false t h g = absurd (cc)

pub takes_settled : (s : State) (n : ℕ) (detail : Detail) (evidence : Evidence) (items : List OutEntry)
    → not (option_map_or is_settled (document s n) true) ≡ true → is_by_receipt detail ≡ true
    → items ≡ map (λ d. if d.number == n then settled_as detail evidence d else d) s.outbox → IsCounted s
    → Takes (settled_in n detail evidence) s (record s { outbox = items })
takes_settled s n detail evidence items open_still by_receipt new counted =
    subst (λ (l : List OutEntry). Takes (settled_in n detail evidence) s (record s { outbox = l })) (sym new) (record {
      is = open_one (option_map_or is_settled (document s n) true) (is_by_receipt detail) (change_document s n (settled_as detail evidence))
          open_still by_receipt;
      counted = one_document_counted s n (settled_as detail evidence) (λ d. refl) counted;
      version = refl;
    })

-- ---- time passes

passed_number : (d : OutEntry) (o : Option Detail) → (passed_document d o).number ≡ d.number
passed_number d None = refl
passed_number d (Some detail) = refl

pub takes_ticked : (s : State) (m : ℕ) (items : List OutEntry) → items ≡ map (λ d. passed_document d (passes_at m d)) s.outbox → IsCounted s
    → Takes (ticked_in m) s (record s { outbox = items })
unfolding tick
takes_ticked s m items new counted = subst (λ (l : List OutEntry). Takes (ticked_in m) s (record s { outbox = l })) (sym new) (record {
  is = refl;
  counted = outbox_counted s (λ d. passed_document d (passes_at m d)) (λ d. passed_number d (passes_at m d)) counted;
  version = refl;
})

pub ticked_told : (s t : State) (m count : ℕ) → s ≡ t → count ≡ count_by (λ d. is_some (passes_at m d)) s.outbox → Ticked count ≡ (tick m t).0
unfolding tick
ticked_told s t m count same is = ap Ticked (is ∙ ap (λ (z : State). count_by (λ d. is_some (passes_at m d)) z.outbox) same)
