-- What is read of a receipt (RFC 8098, section 3.2; RFC 4130, section 7.4.3).
use Rattle.std.specs.Prelude.{ℕ, List}
use Rattle.as2_mdn.specs.declared.receipt.MicPart.{MicPart}
use Rattle.as2_mdn.specs.declared.receipt.MicPart.TheVariants as part

-- what a receipt gives as the MIC: nothing, what can't be read, or the text of the MIC and the name of its digest
pub data Mic : Type 0 where
  Missing : Mic
  Unreadable : Mic
  Given : (field : List ℕ × List ℕ) → Mic

-- a receipt: the identifier that it names, as received, its disposition (type and modifier) and its MIC
pub record ReceiptRead : Type 0 where
  pub original_id : List ℕ
  pub disposition : List ℕ × List ℕ
  pub mic : Mic

abbrev pub mic_of : MicPart → Mic
mic_of part.Missing = Missing
mic_of part.Unreadable = Unreadable
mic_of (part.Given field) = Given field
