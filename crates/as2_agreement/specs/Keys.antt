-- The keys of agreements as the file spells them, and the words for the faults of agreements.
use Rattle.std.specs.Prelude.{ℕ, List, codes, Option, Some, None}
use Rattle.as2_agreement.specs.declared.key.Key.{Key}
use Rattle.as2_agreement.specs.declared.key.Key.TheVariants as key
use Rattle.as2_agreement.specs.declared.fault.AgreementFault.{AgreementFault}
use Rattle.as2_agreement.specs.declared.fault.AgreementFault.TheVariants as fault

abbrev pub key_name : Key → List ℕ
key_name key.Domain = codes "domain"
key_name key.ReturnUrl = codes "return_url"
key_name key.Organization = codes "organization"
key_name key.Partner = codes "partner"
key_name key.Name = codes "name"
key_name key.Url = codes "url"
key_name key.Receipt = codes "receipt"
key_name key.Digest = codes "digest"
key_name key.ContentType = codes "content_type"
key_name key.MaxTries = codes "max_tries"
key_name key.RetrySeconds = codes "retry_seconds"
key_name key.OverdueSeconds = codes "overdue_seconds"

-- the word for a fault
abbrev pub fault_name : AgreementFault → List ℕ
fault_name fault.NotToml = codes "NotToml"
fault_name (fault.Missing key) = codes "Missing"
fault_name (fault.WrongKind key) = codes "WrongKind"
fault_name fault.BadName = codes "BadName"
fault_name fault.NameTwice = codes "NameTwice"
fault_name (fault.BadUrl key) = codes "BadUrl"
fault_name (fault.OutOfRange key) = codes "OutOfRange"
fault_name fault.NoReturnUrl = codes "NoReturnUrl"
fault_name fault.TooMany = codes "TooMany"
fault_name fault.Memory = codes "Memory"

-- the key that a fault names, if it names one
abbrev pub fault_key : AgreementFault → Option Key
fault_key (fault.Missing key) = Some key
fault_key (fault.WrongKind key) = Some key
fault_key (fault.BadUrl key) = Some key
fault_key (fault.OutOfRange key) = Some key
fault_key _ = None
