-- Which agreements a file has, or why it has none.
use Rattle.std.specs.Prelude.{◌≡◌, ◌⊎◌, ℕ, List, Result, Ok, Err, IsUtf8, ⊤}
use Rattle.as2_agreement.specs.Agreements.{AgreedValues}
use Rattle.as2_agreement.specs.Reading.{agreements_reading}
use Rattle.as2_agreement.specs.declared.fault.AgreementFault.TheVariants as fault
use Rattle.as2_host.specs.FileContents.{Content, untold, unreadable, file}
use Rattle.as2_host.specs.declared.files.FileFault.{FileFault}
use Rattle.as2_host.specs.declared.files.FileFault.TheVariants as file_fault
use Rattle.as2_desk.specs.declared.refusal.CommandFault.{CommandFault}
use Rattle.as2_desk.specs.declared.refusal.CommandFault.TheVariants as refusal

-- agreements, or the refusal that stands in their place
abbrev pub AgreementsResult : Type 0
AgreementsResult = Result AgreedValues CommandFault

-- memory ran out as the agreements were read
abbrev pub IsOutOfMemory : AgreementsResult → Type 0
IsOutOfMemory reading = reading ≡ Err (refusal.Agreements fault.Memory)

-- The bytes are a text that has the agreements, or that fault first. Bytes that are no text are no TOML. No other refusal comes of
-- bytes.
abbrev pub AreReadAs : List ℕ → AgreementsResult → Type 0
AreReadAs bytes (Ok agreements) = IsUtf8 bytes × (agreements_reading bytes ≡ Ok agreements)
AreReadAs bytes (Err (refusal.Agreements e)) = (IsUtf8 bytes × (agreements_reading bytes ≡ Err e)) ⊎ (¬ IsUtf8 bytes × (e ≡ fault.NotToml))
AreReadAs bytes (Err other) = ⊥

-- the same, or memory ran out in place of any answer
abbrev pub AreReadAsOrMemory : List ℕ → AgreementsResult → Type 0
AreReadAsOrMemory bytes reading = AreReadAs bytes reading ⊎ IsOutOfMemory reading

-- what the file that stands under a path comes to, as far as that is told
abbrev pub HasAgreements : Content → AgreementsResult → Type 0
HasAgreements untold reading = ⊤
HasAgreements unreadable reading = reading ≡ Err refusal.CannotRead
HasAgreements (file bytes) reading = AreReadAsOrMemory bytes reading

-- how it is told that a file gave no bytes
abbrev pub unread_fault : FileFault → CommandFault
unread_fault file_fault.CannotRead = refusal.CannotRead
unread_fault file_fault.Memory = refusal.Agreements fault.Memory
