-- The field that a value has.
use Rattle.std.proofs.Common.{◌≡◌, ◌==◌, ℕ, true, List, [], length, sym, ap, ◌∙◌}
use Rattle.std.proofs.lemmas.Bool.{eqb-true}
use Rattle.std.proofs.lemmas.List.{nil_from_length}
use Rattle.as2_names.specs.Ascii.{comma}
use Rattle.as2_names.specs.Cuts.{Lacks, IsCutAt}
use Rattle.as2_mic.specs.Field.{IsMicField}
use Rattle.as2_names.specs.Trim.{trimmed_text}
use Rattle.as2_names.proofs.Cuts.{one_before, one_behind, no_cut}

pub no_field : (value : List ℕ) (field : List ℕ × List ℕ) → Lacks comma value → IsMicField value field → ⊥
no_field value field none f = no_cut comma value f.before f.behind none f.cut

pub the_mic : (value before behind : List ℕ) (field : List ℕ × List ℕ) → IsCutAt comma value before behind → IsMicField value field
    → field.0 ≡ trimmed_text before
the_mic value before behind field c f = f.mic ∙ ap trimmed_text (one_before comma value f.before f.behind before behind f.cut c)

pub the_digest : (value before behind : List ℕ) (field : List ℕ × List ℕ) → IsCutAt comma value before behind → IsMicField value field
    → field.1 ≡ trimmed_text behind
the_digest value before behind field c f = f.digest ∙ ap trimmed_text (one_behind comma value f.before f.behind before behind f.cut c)

nothing : (text : List ℕ) → (length text == 0) ≡ true → text ≡ []
nothing text e = nil_from_length text (eqb-true (length text) 0 e)

pub empty_mic : (value before behind mic : List ℕ) (field : List ℕ × List ℕ) → IsCutAt comma value before behind → mic ≡ trimmed_text before
    → (length mic == 0) ≡ true → IsMicField value field → ⊥
empty_mic value before behind mic field c e zero f = f.has_mic (the_mic value before behind field c f ∙ sym e ∙ nothing mic zero)

pub empty_digest : (value before behind digest : List ℕ) (field : List ℕ × List ℕ) → IsCutAt comma value before behind → digest ≡ trimmed_text behind
    → (length digest == 0) ≡ true → IsMicField value field → ⊥
empty_digest value before behind digest field c e zero f = f.has_digest (the_digest value before behind field c f ∙ sym e ∙ nothing digest zero)

pub the_field : (value before behind mic digest : List ℕ) (field : List ℕ × List ℕ) → IsCutAt comma value before behind → mic ≡ trimmed_text before
    → digest ≡ trimmed_text behind → IsMicField value field → (mic, digest) ≡ field
the_field value before behind mic digest field c m d f =
    λ i. ((m ∙ sym (the_mic value before behind field c f)) i, (d ∙ sym (the_digest value before behind field c f)) i)
