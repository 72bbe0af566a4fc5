-- What a try makes of a document that is found, or why it doesn't begin.
use Rattle.std.proofs.Common.{◌≡◌, ◌∙◌, ℕ, ◌+◌, ◌||◌, Bool, true, false, option_map, Some, None, Ok, Err, nat_le, refl, sym, ap, arith}
use Rattle.std.specs.Prelude.{if◌then◌else◌}
use Rattle.std.proofs.lemmas.Bool.Decides.{nat_tests}
use Rattle.as2_exchange.specs.Agreement.{Agreements, Partner}
use Rattle.as2_exchange.specs.Documents.{begun_document, waits}
use Rattle.as2_exchange.specs.Readings.{document_job}
use Rattle.as2_exchange.specs.State.{State, document, change_document, is_settled}
use Rattle.as2_exchange.specs.Step.{on_document}
use Rattle.as2_exchange.specs.Tries.{is_early}
use Rattle.as2_exchange.specs.declared.answer.Answer.{Answer}
use Rattle.as2_exchange.specs.declared.answer.Answer.TheVariants.{Job as AJob, Refused}
use Rattle.as2_exchange.specs.declared.answer.Refusal.{Refusal}
use Rattle.as2_exchange.specs.declared.answer.Refusal.TheVariants.{AllSettled, NotDue, TriesUsed}
use Rattle.as2_exchange.specs.declared.outbox.OutEntry.{OutEntry}
use Rattle.as2_records.specs.Standing.{IsCounted}
use Rattle.as2_records.specs.Progressing.{come_to, set_out_in}
use Rattle.as2_station.specs.Trying.{agreed_partner, progress_after_try, try_refusal}
use Rattle.as2_station.proofs.Acting.{acts_agreed, changes, refused_agreed}

-- ---- the tests

pub refused_by : {E : Type 0} (a b c : Bool) (d : E) (rest : Answer × E) (reason : Refusal)
    → (if a then Some AllSettled else if b then Some TriesUsed else if c then Some NotDue else None) ≡ Some reason
    → (if a then (Refused AllSettled, d) else if b then (Refused TriesUsed, d) else if c then (Refused NotDue, d) else rest) ≡ (Refused reason, d)
refused_by true b c d rest reason is = let same : AllSettled ≡ reason = cc in ap (λ r. (Refused r, d)) same
refused_by false true c d rest reason is = let same : TriesUsed ≡ reason = cc in ap (λ r. (Refused r, d)) same
refused_by false false true d rest reason is = let same : NotDue ≡ reason = cc in ap (λ r. (Refused r, d)) same
refused_by false false false d rest reason is = absurd cc

pub begins_by : {E : Type 0} (a b c : Bool) (d : E) (rest : Answer × E)
    → (if a then Some AllSettled else if b then Some TriesUsed else if c then Some NotDue else None) ≡ None
    → (if a then (Refused AllSettled, d) else if b then (Refused TriesUsed, d) else if c then (Refused NotDue, d) else rest) ≡ rest
begins_by true b c d rest is = absurd cc
begins_by false true c d rest is = absurd cc
begins_by false false true d rest is = absurd cc
begins_by false false false d rest is = refl

-- ---- a try

-- once it is tried, it is begun
tried_begins : (was : Bool) (n : ℕ) → (was || nat_le 1 (n + 1)) ≡ true
tried_begins true n = refl
tried_begins false n = grind (arith, nat_tests)

module _ (A : Agreements) (m : ℕ) (d : OutEntry) where
  pub not_agreed : (reason : Refusal) → agreed_partner A d.organization d.partner ≡ Err reason → begun_document A m d ≡ (Refused reason, d)
  unfolding begun_document
  not_agreed reason is = refused_agreed A d.organization d.partner d _ reason is

  pub no_try : (p : Partner) (reason : Refusal) → agreed_partner A d.organization d.partner ≡ Ok p → try_refusal p d m ≡ Some reason
      → begun_document A m d ≡ (Refused reason, d)
  unfolding begun_document
  no_try p reason known is = acts_agreed A d.organization d.partner d _ p known
      ∙ refused_by (is_settled d) (nat_le p.max_tries d.tries) (waits d.detail || is_early m d.due) d _ reason is

  pub a_try : (p : Partner) → agreed_partner A d.organization d.partner ≡ Ok p → try_refusal p d m ≡ None
      → begun_document A m d ≡ (AJob (document_job A p d.organization d.id d.content), come_to (progress_after_try p d m) d)
  unfolding begun_document
  a_try p known is =
      acts_agreed A d.organization d.partner d _ p known ∙ begins_by (is_settled d) (nat_le p.max_tries d.tries) (waits d.detail || is_early m d.due) d _ is
      ∙ ap (λ (b : Bool). (
        AJob (document_job A p d.organization d.id d.content),
        record d {
          begun = b;
          tries = d.tries + 1;
          attempt = (progress_after_try p d m).attempt;
          due = (progress_after_try p d m).due;
          detail = (progress_after_try p d m).detail;
        },
      )) (sym (tried_begins d.begun d.tries))

-- there are tries left
pub tries_left : (p : Partner) (d : OutEntry) (m : ℕ) → try_refusal p d m ≡ None → nat_le p.max_tries d.tries ≡ false
tries_left p d m is = by (is_settled d) (nat_le p.max_tries d.tries) (waits d.detail || is_early m d.due) is
  where
    by : (a b c : Bool) → (if a then Some AllSettled else if b then Some TriesUsed else if c then Some NotDue else None) ≡ None → b ≡ false
    by true b c is = absurd cc
    by false true c is = absurd cc
    by false false c is = refl

-- what is written is what the machine leaves
pub begins : (A : Agreements) (m : ℕ) (s t : State) (d : OutEntry) (p : Partner) → IsCounted s → document s d.number ≡ Some d
    → agreed_partner A d.organization d.partner ≡ Ok p → try_refusal p d m ≡ None
    → set_out_in d.number (progress_after_try p d m) s ≡ Some t
    → Some (on_document s d.number (begun_document A m)) ≡ Some (AJob (document_job A p d.organization d.id d.content), t)
begins A m s t d p stands found known fine is =
    let left : Some (change_document s d.number (come_to (progress_after_try p d m))) ≡ Some t =
    ap (option_map (λ _. change_document s d.number (come_to (progress_after_try p d m)))) (sym found) ∙ is in
    let there : change_document s d.number (come_to (progress_after_try p d m)) ≡ t = cc in
    ap Some (changes s d stands found (begun_document A m) (AJob (document_job A p d.organization d.id d.content))
    (come_to (progress_after_try p d m)) (a_try A m d p known fine) ∙ ap (λ (x : State). (AJob (document_job A p d.organization d.id d.content), x)) there)
