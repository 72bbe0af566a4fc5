-- What `check` tells of agreements.
use Rattle.std.specs.Prelude.{ℕ, List, ◌++◌, length, codes, decimal, Bool, false, not, Option, Some, None, if◌then◌else◌}
use Rattle.as2_agreement.specs.Agreements.{AgreedValues}
use Rattle.std.specs.Str.{bytes_eq}
use Rattle.as2_text.specs.Addresses.{address_target, url_of}

-- `organizations A, partners B`
abbrev pub counts_line : AgreedValues → List ℕ
counts_line a = codes "organizations " ++ (decimal (length a.organizations) ++ (codes ", partners " ++ (decimal (length a.partners) ++ codes "\n")))

-- what is sent to the address doesn't get to the station's path
abbrev pub is_off : Option (List ℕ × List ℕ) → Bool
is_off None = false
is_off (Some url) = not (bytes_eq (address_target url) (codes "/as2"))

-- .. to the address for receipts, if there is one
abbrev pub is_elsewhere : Option (List ℕ) → Bool
is_elsewhere None = false
is_elsewhere (Some text) = is_off (url_of text)

-- what `check` warns of
abbrev pub warnings : AgreedValues → List ℕ
warnings a = if is_elsewhere a.return_url then codes "warning: return_url has not the path /as2; receipts sent there get 404\n" else codes ""
