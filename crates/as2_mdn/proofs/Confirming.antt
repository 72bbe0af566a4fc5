-- Which receipts give the verdict of success.
use Rattle.std.proofs.Common.{◌≡◌, ◌↔◌, ℕ, Bool, true, false, not, List, [], ◌∷◌, Option, Some, None, refl, arith}
use Rattle.std.specs.Prelude.{length, ◌==◌, if◌then◌else◌}
use Rattle.std.proofs.lemmas.Bool.Decides.{nat_tests}
use Rattle.std.proofs.lemmas.Option.{same_Some}
use Rattle.as2_mic.specs.declared.field.Compared.{Compared}
use Rattle.as2_mic.specs.declared.field.Compared.TheVariants.{UnknownAlg, Same, Differs}
use Rattle.as2_mic.specs.Algs.{Digests}
use Rattle.as2_mic.specs.Field.{comparison}
use Rattle.as2_mdn.specs.Dispositions.{modifier_of, says_processed, has_modifier, has_error}
use Rattle.as2_mdn.specs.Receipts.{ReceiptRead, Mic, Missing, Unreadable, Given}
use Rattle.as2_mdn.specs.Verdicts.{mic_compared, differs, is_missing, is_unknown, verdict_of, Confirms}
use Rattle.as2_mdn.specs.declared.detail.Detail.TheVariants.{Processed, Warning, NoMic, UnknownMic, NotProcessed, ErrorModifier, MicDiffers}

-- the last line fits only where no other does
no_other_line : (processed error modified : Bool) (found : Option Compared)
    → (if not processed then NotProcessed else if error then ErrorModifier else if differs found then MicDiffers else if modified then Warning else if is_missing found then NoMic else if is_unknown found then UnknownMic else Processed) ≡ Processed → (processed ≡ true) × (modified ≡ false) × (found ≡ Some Same)
no_other_line false error modified found h = absurd (cc)
no_other_line true true modified found h = absurd (cc)
no_other_line true false true None h = absurd (cc)
no_other_line true false false None h = absurd (cc)
no_other_line true false modified (Some Differs) h = absurd (cc)
no_other_line true false true (Some UnknownAlg) h = absurd (cc)
no_other_line true false false (Some UnknownAlg) h = absurd (cc)
no_other_line true false true (Some Same) h = absurd (cc)
no_other_line true false false (Some Same) h = (refl, refl, refl)

-- no modifier is an empty one
nothing_there : (text : List ℕ) → not (length text == 0) ≡ false → text ≡ []
nothing_there [] h = refl
nothing_there (x ∷ xs) h = absurd (grind (arith, nat_tests))

-- the MIC of a content is given
given_so : (known : Digests) (given : Mic) (content : List ℕ) → mic_compared known given content ≡ Some Same → (field : List ℕ × List ℕ)
    × (given ≡ Given field) × (comparison known field content ≡ Same)
given_so known Missing content h = absurd (cc)
given_so known Unreadable content h = absurd (cc)
given_so known (Given field) content h = (field, refl, same_Some _ _ h)

pub confirmed : (known : Digests) (receipt : ReceiptRead) (content : List ℕ) → (verdict_of known receipt content ≡ Processed) ↔ Confirms known receipt content
confirmed known receipt content = (there, back)
  where
    there : verdict_of known receipt content ≡ Processed → Confirms known receipt content
    there h =
        let lines = no_other_line (says_processed receipt.disposition) (has_error receipt.disposition) (has_modifier receipt.disposition)
        (mic_compared known receipt.mic content) h in
        let given = given_so known receipt.mic content lines.2 in
        record { field = given.0; processed = lines.0; unmodified = nothing_there (modifier_of receipt.disposition) lines.1; given = given.1; same = given.2 }

    back : Confirms known receipt content → verdict_of known receipt content ≡ Processed
    back h = rw (h.processed, h.unmodified, h.given, h.same) refl
