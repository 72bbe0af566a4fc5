-- The disposition that is read is the one that the value has.
use Rattle.std.proofs.Common.{◌≡◌, ◌==◌, ◌&&◌, ℕ, true, false, cond, List, [], ◌∷◌, ◌++◌, length, Option, Some, None, Result, Ok, Err, refl, sym, ap, subst, ◌∙◌, inl, inr}
use Rattle.std.specs.Prelude.{◌⊎◌, IfOk}
use Rattle.std.proofs.lemmas.Bool.{cases_Bool, and_parts, eqb-true}
use Rattle.std.proofs.lemmas.List.{nil_from_length}
use Rattle.std.proofs.lemmas.List.Elements.{All-cons, All-append}
use Rattle.as2_names.specs.Ascii.{slash, semicolon}
use Rattle.as2_names.specs.Cuts.{IsCutAt, cut_at}
use Rattle.as2_mdn.specs.Dispositions.{type_in_disposition, is_action_mode, is_sending_mode, IsModified, IsUnmodified, IsDisposition, type_and_modifier, with_type, with_mode, with_both, disposition_reading}
use Rattle.as2_mdn.specs.declared.disposition.DispositionFault.{DispositionFault}
use Rattle.as2_mdn.specs.declared.disposition.DispositionFault.TheVariants as fault
use Rattle.as2_names.proofs.Cuts.{cut_some, cut_none, cut_found}
use Rattle.as2_mdn.proofs.Cutting.{found_none}
use Rattle.as2_mdn.proofs.Modes.{action_has_no_slash, action_has_no_semicolon, sending_has_no_semicolon}

-- ---- what stands in the value is read

typed_again : (text : List ℕ) (d : List ℕ × List ℕ) → IsModified text d ⊎ IsUnmodified text d → type_and_modifier text (cut_at slash text) ≡ d
typed_again text d t =
    elim t [
      | inl m ↦ rw (cut_some slash text m.before m.behind m.cut) (λ i. ((sym m.is_type) i, (sym m.is_modifier) i))
      | inr u ↦ rw (cut_none slash text u.whole) (λ i. ((sym u.is_type) i, (sym u.no_modifier) i))
    ]

type_again : (d : List ℕ × List ℕ) → (type_in_disposition d ≡ [] → ⊥) → with_type d ≡ Ok d
type_again d some =
    elim (cases_Bool (length (type_in_disposition d) == 0)) [
      | inl none ↦ absurd (some (nil_from_length (type_in_disposition d) (eqb-true (length (type_in_disposition d)) 0 none)))
      | inr other ↦ rw other refl
    ]

mode_cut : (value : List ℕ) (d : List ℕ × List ℕ) (x : IsDisposition value d) → IsCutAt semicolon value (x.action ++ slash ∷ x.sending) x.typed
mode_cut value d x = record {
  whole = x.whole;
  first = All-append (λ b. (b == semicolon) ≡ false) x.action (slash ∷ x.sending) (action_has_no_semicolon x.action x.is_action)
      (All-cons (λ b. (b == semicolon) ≡ false) slash x.sending refl (sending_has_no_semicolon x.sending x.is_sending));
}

action_cut : (value : List ℕ) (d : List ℕ × List ℕ) (x : IsDisposition value d) → IsCutAt slash (x.action ++ slash ∷ x.sending) x.action x.sending
action_cut value d x = record { whole = refl; first = action_has_no_slash x.action x.is_action }

pub again : (value : List ℕ) (d : List ℕ × List ℕ) → IsDisposition value d → disposition_reading value ≡ Ok d
again value d x =
    rw (
      cut_some semicolon value (x.action ++ slash ∷ x.sending) x.typed (mode_cut value d x),
      cut_some slash (x.action ++ slash ∷ x.sending) x.action x.sending (action_cut value d x),
      x.is_action,
      x.is_sending,
      typed_again x.typed d x.is_typed,
    )
    (type_again d x.has_type)

-- ---- what is read stands in the value

typed_found : (text : List ℕ) (cut : Option (List ℕ × List ℕ)) → cut_at slash text ≡ cut → IsModified text (type_and_modifier text cut)
    ⊎ IsUnmodified text (type_and_modifier text cut)
typed_found text None e = inr (record { whole = found_none slash text e; is_type = refl; no_modifier = refl })
typed_found text (Some p) e = inl (record { before = p.0; behind = p.1; cut = cut_found slash text p e; is_type = refl; is_modifier = refl })

type_found : (d found : List ℕ × List ℕ) → with_type found ≡ Ok d → (found ≡ d) × (type_in_disposition found ≡ [] → ⊥)
type_found d found h =
    elim (cases_Bool (length (type_in_disposition found) == 0)) [
      | inl none ↦
          let no : Err fault.NoType ≡ Ok d = sym (ap (λ t. cond t (Err fault.NoType) (Ok found)) none) ∙ h in
          absurd cc
      | inr other ↦
          let yes : Ok found ≡ Ok d = sym (ap (λ t. cond t (Err fault.NoType) (Ok found)) other) ∙ h in
          let some : type_in_disposition found ≡ []
          → ⊥ = λ e. let zero : (length (type_in_disposition found) == 0) ≡ true = ap (λ (x : List ℕ). length x == 0) e in absurd cc in
          (cc, some)
    ]

with_mode_found : (value mode typed : List ℕ) (d p : List ℕ × List ℕ) → IsCutAt semicolon value mode typed → IsCutAt slash mode p.0 p.1
    → with_mode (Some p) typed ≡ Ok d → IsDisposition value d
with_mode_found value mode typed d p whole cut h =
    elim (cases_Bool (is_action_mode p.0 && is_sending_mode p.1)) [
      | inl good ↦
          let on : with_type (type_and_modifier typed (cut_at slash typed)) ≡ Ok d =
          sym (ap (λ t. cond t (with_type (type_and_modifier typed (cut_at slash typed))) (Err fault.BadMode)) good) ∙ h in
          let t = type_found d (type_and_modifier typed (cut_at slash typed)) on in
          let words = and_parts (is_action_mode p.0) (is_sending_mode p.1) good in
          subst (IsDisposition value) t.0 (record {
            action = p.0;
            sending = p.1;
            typed = typed;
            whole = whole.whole ∙ ap (λ (x : List ℕ). x ++ semicolon ∷ typed) cut.whole;
            is_action = words.0;
            is_sending = words.1;
            is_typed = typed_found typed (cut_at slash typed) refl;
            has_type = t.1;
          })
      | inr bad ↦
          let no : Err fault.BadMode ≡ Ok d = sym (ap (λ t. cond t (with_type (type_and_modifier typed (cut_at slash typed))) (Err fault.BadMode)) bad) ∙ h in
          absurd cc
    ]

mode_found : (value mode typed : List ℕ) (d : List ℕ × List ℕ) (cut : Option (List ℕ × List ℕ)) → IsCutAt semicolon value mode typed → cut_at slash mode ≡ cut
    → with_mode cut typed ≡ Ok d → IsDisposition value d
mode_found value mode typed d None whole e h = absurd cc
mode_found value mode typed d (Some p) whole e h = with_mode_found value mode typed d p whole (cut_found slash mode p e) h

both_found : (value : List ℕ) (d : List ℕ × List ℕ) (cut : Option (List ℕ × List ℕ)) → cut_at semicolon value ≡ cut → with_both cut ≡ Ok d
    → IsDisposition value d
both_found value d None e h = absurd cc
both_found value d (Some p) e h = mode_found value p.0 p.1 d (cut_at slash p.0) (cut_found semicolon value p e) refl h

found : (value : List ℕ) (d : List ℕ × List ℕ) → disposition_reading value ≡ Ok d → IsDisposition value d
found value d h = both_found value d (cut_at semicolon value) refl h

pub found_by : (value : List ℕ) (r : Result (List ℕ × List ℕ) DispositionFault) → r ≡ disposition_reading value → IfOk r (IsDisposition value)
found_by value (Ok d) e = found value d (sym e)
found_by value (Err f) e = tt
