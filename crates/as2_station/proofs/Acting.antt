-- An act on a document that is found, and on one that the agreements let be sent.
use Rattle.std.proofs.Common.{◌≡◌, ◌∙◌, ℕ, ◌==◌, Bool, true, false, not, List, [], ◌∷◌, find, Option, Some, None, Ok, Err, cond, refl, sym, ap, ap₂, arith}
use Rattle.std.specs.Prelude.{if◌then◌else◌}
use Rattle.std.specs.Option.{option_map_or}
use Rattle.std.proofs.lemmas.Bool.Decides.{nat_tests}
use Rattle.as2_exchange.specs.Agreement.{Agreements, Partner, Text, is_organization, partner_of}
use Rattle.as2_exchange.specs.State.{State, document, change_document}
use Rattle.as2_exchange.specs.Step.{act_on, on_document}
use Rattle.as2_exchange.specs.Tries.{where_agreed}
use Rattle.as2_exchange.specs.declared.answer.Answer.{Answer}
use Rattle.as2_exchange.specs.declared.answer.Answer.TheVariants.{Refused}
use Rattle.as2_exchange.specs.declared.answer.Refusal.{Refusal}
use Rattle.as2_exchange.specs.declared.answer.Refusal.TheVariants.{UnknownOrganization, UnknownPartner}
use Rattle.as2_exchange.specs.declared.outbox.OutEntry.{OutEntry}
use Rattle.as2_exchange.proofs.Refusing.{left_as_is}
use Rattle.as2_records.specs.Standing.{IsCounted}
use Rattle.as2_station.specs.Trying.{agreed_partner, known_partner}
use Rattle.as2_station.proofs.Numbers.{changes_alike}

-- ---- agreements

module _ {E : Type 0} (A : Agreements) (organization partner : Text) (e : E) (act : Partner → Answer × E) where
  pub refused_agreed : (reason : Refusal) → agreed_partner A organization partner ≡ Err reason → where_agreed A organization partner e act ≡ (Refused reason, e)
  refused_agreed reason is = by (is_organization A organization) (partner_of A partner) is
    where
      by : (ours : Bool) (p : Option Partner) → (if not ours then Err UnknownOrganization else known_partner p) ≡ Err reason
          → (if not ours then (Refused UnknownOrganization, e) else option_map_or act p (Refused UnknownPartner, e)) ≡ (Refused reason, e)
      by false p is = let same : UnknownOrganization ≡ reason = cc in ap (λ r. (Refused r, e)) same
      by true None is = let same : UnknownPartner ≡ reason = cc in ap (λ r. (Refused r, e)) same
      by true (Some p) is = absurd cc

  pub acts_agreed : (p : Partner) → agreed_partner A organization partner ≡ Ok p → where_agreed A organization partner e act ≡ act p
  acts_agreed p is = by (is_organization A organization) (partner_of A partner) is
    where
      by : (ours : Bool) (q : Option Partner) → (if not ours then Err UnknownOrganization else known_partner q) ≡ Ok p
          → (if not ours then (Refused UnknownOrganization, e) else option_map_or act q (Refused UnknownPartner, e)) ≡ act p
      by false q is = absurd cc
      by true None is = absurd cc
      by true (Some q) is = let same : q ≡ p = cc in ap act same

-- ---- an act on a document that is found

module _ (s : State) (d : OutEntry) (stands : IsCounted s) (found : document s d.number ≡ Some d) (act : OutEntry → Answer × OutEntry) (a : Answer) where
  -- it leaves it
  pub leaves : act d ≡ (a, d) → on_document s d.number act ≡ (a, s)
  leaves is =
      ap (act_on s d.number act) found
      ∙ ap₂ (λ (x : Answer) (ds : List OutEntry). (x, record s { outbox = ds })) (ap (λ y. y.0) is)
      (left_as_is (λ (x : OutEntry). x.number) (λ e. (act e).1) d.number d s.outbox stands.documents.1.distinct found (ap (λ y. y.1) is))

  -- or changes it so
  pub changes : (g : OutEntry → OutEntry) → act d ≡ (a, g d) → on_document s d.number act ≡ (a, change_document s d.number g)
  changes g is =
      ap (act_on s d.number act) found
      ∙ ap₂ (λ (x : Answer) (ds : List OutEntry). (x, record s { outbox = ds })) (ap (λ y. y.0) is)
      (changes_alike (λ (x : OutEntry). x.number) (λ e. (act e).1) g d.number d s.outbox stands.documents.1.distinct found (ap (λ y. y.1) is))

-- an entry that is found has the number that was asked for
pub numbered : {E : Type 0} (number : E → ℕ) (n : ℕ) (ds : List E) (d : E) → find (λ x. number x == n) ds ≡ Some d → number d ≡ n
numbered number n [] d found = absurd cc
numbered {E} number n (x ∷ ds) d found = go (number x == n) refl found (numbered number n ds d)
  where
    go : (t : Bool) → (number x == n) ≡ t → cond t (Some x) (find (λ y. number y == n) ds) ≡ Some d → (find (λ y. number y == n) ds ≡ Some d → number d ≡ n)
        → number d ≡ n
    go true is here later = let same : x ≡ d = cc in let it : number x ≡ n = grind (arith, nat_tests) in ap (λ (y : E). number y) (sym same) ∙ it
    go false is here later = later here

-- an act that does the same to it
pub acts_alike : (s : State) (d : OutEntry) → IsCounted s → document s d.number ≡ Some d → (act other : OutEntry → Answer × OutEntry) → act d ≡ other d
    → on_document s d.number act ≡ on_document s d.number other
acts_alike s d stands found act other same =
    ap (act_on s d.number act) found
    ∙ ap₂ (λ (x : Answer) (ds : List OutEntry). (x, record s { outbox = ds })) (ap (λ y. y.0) same)
    (changes_alike (λ (x : OutEntry). x.number) (λ e. (act e).1) (λ e. (other e).1) d.number d s.outbox stands.documents.1.distinct found (ap (λ y. y.1) same))
    ∙ ap (act_on s d.number other) (sym found)
