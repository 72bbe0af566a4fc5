-- What a receipt says of a document's content (RFC 8098, section 3.2.6; RFC 4130, section 7.5).
use Rattle.std.specs.Prelude.{◌≡◌, ℕ, Bool, true, false, not, List, [], if◌then◌else◌, IsTrue, Option, Some, None}
use Rattle.as2_mic.specs.declared.field.Compared.{Compared}
use Rattle.as2_mic.specs.declared.field.Compared.TheVariants.{UnknownAlg, Same, Differs}
use Rattle.as2_mic.specs.Algs.{Digests}
use Rattle.as2_mic.specs.Field.{comparison}
use Rattle.as2_mdn.specs.Dispositions.{modifier_of, says_processed, has_modifier, has_error}
use Rattle.as2_mdn.specs.Receipts.{ReceiptRead, Mic, Missing, Unreadable, Given}
use Rattle.as2_mdn.specs.declared.detail.Detail.{Detail}
use Rattle.as2_mdn.specs.declared.detail.Detail.TheVariants.{Processed, Warning, NoMic, UnknownMic, NotProcessed, ErrorModifier, MicDiffers}

-- what comes of comparing a content with the MIC that is given, if one is; one that can't be read is under no known
-- digest
abbrev pub mic_compared : Digests → Mic → List ℕ → Option Compared
mic_compared known Missing content = None
mic_compared known Unreadable content = Some UnknownAlg
mic_compared known (Given field) content = Some (comparison known field content)

-- a MIC is given under a known digest, and isn't the content's
abbrev pub differs : Option Compared → Bool
differs (Some Differs) = true
differs found = false

-- no MIC is given
abbrev pub is_missing : Option Compared → Bool
is_missing None = true
is_missing found = false

-- a MIC is given that can't be read, or whose digest isn't known
abbrev pub is_unknown : Option Compared → Bool
is_unknown (Some UnknownAlg) = true
is_unknown found = false

-- the verdict on a disposition and what came of comparing: the first line that fits
abbrev pub verdict_on : List ℕ × List ℕ → Option Compared → Detail
verdict_on disposition found =
    if not (says_processed disposition) then NotProcessed
    else if has_error disposition then ErrorModifier
    else if differs found then MicDiffers
    else if has_modifier disposition then Warning
    else if is_missing found then NoMic
    else if is_unknown found then UnknownMic
    else Processed

-- the verdict of a receipt on a content, where these digests are known
abbrev pub verdict_of : Digests → ReceiptRead → List ℕ → Detail
verdict_of known receipt content = verdict_on receipt.disposition (mic_compared known receipt.mic content)

-- The receipt confirms the content: it says `processed`, without modifier, and gives a MIC that is the content's own under
-- the digest that it names, whichever of the known ones.
pub record Confirms (known : Digests) (receipt : ReceiptRead) (content : List ℕ) : Type 0 where
  pub field : List ℕ × List ℕ
  pub processed : IsTrue (says_processed receipt.disposition)
  pub unmodified : modifier_of receipt.disposition ≡ []
  pub given : receipt.mic ≡ Given field
  pub same : comparison known field content ≡ Same
