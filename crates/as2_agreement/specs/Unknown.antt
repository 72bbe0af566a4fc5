-- Keys that agreements don't have.
use Rattle.std.specs.Prelude.{◌≡◌, ℕ, List, [], ◌∷◌, Bool, false, string_bytes}
use Rattle.std.specs.List.{list_any}
use Rattle.std.specs.Str.{bytes_eq}
use Rattle.as2_agreement.specs.Keys.{key_name}
use Rattle.as2_agreement.specs.declared.key.Key.{Key}
use Rattle.as2_agreement.specs.declared.key.Key.TheVariants as key
use Rattle.as2_agreement.specs.declared.unknown.Holder.{Holder}
use Rattle.as2_agreement.specs.declared.unknown.Holder.TheVariants as holder
use Rattle.as2_agreement.specs.declared.unknown.Unknown.{Unknown}

-- the text is one of the keys
abbrev pub is_known : List Key → List ℕ → Bool
is_known known text = list_any (λ k. bytes_eq (key_name k) text) known

-- the keys of a document, of an organization, of a partner
abbrev pub keys_of : Holder → List Key
keys_of holder.Document = key.Domain ∷ key.ReturnUrl ∷ key.Organization ∷ key.Partner ∷ []
keys_of (holder.Organization n) = key.Name ∷ []
keys_of (holder.Partner n) = key.Name ∷ key.Url ∷ key.Receipt ∷ key.Digest ∷ key.ContentType ∷ key.MaxTries ∷ key.RetrySeconds ∷ key.OverdueSeconds ∷ []

-- it is none of the keys of what it stands in
abbrev pub IsUnknown : Unknown → Type 0
IsUnknown u = is_known (keys_of u.holder) (string_bytes u.key) ≡ false
