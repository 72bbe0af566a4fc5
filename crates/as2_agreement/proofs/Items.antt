-- Entries of arrays, and the names that are taken.
use Rattle.std.proofs.Common.{◌≡◌, ℕ, suc, Bool, List, [], ◌∷◌, map, length, refl, ap, ◌∙◌, ◌||◌}
use Rattle.std.specs.List.{list_any}
use Rattle.std.specs.Str.{bytes_eq}
use Rattle.std.proofs.lemmas.List.Folds.{list_any-append}
use Rattle.toml.specs.declared.value.Value.{Value}
use Rattle.toml.specs.View.{items_view}
use Rattle.as2_agreement.specs.Agreements.{names}
use Rattle.as2_agreement.specs.Reading.{items_len}
use Rattle.as2_agreement.specs.declared.partner.Organization.{Organization}
use Rattle.as2_agreement.specs.declared.partner.Partner.{Partner}

pub items_len-view : (vs : List Value) → items_len (items_view vs) ≡ length vs
items_len-view [] = refl
items_len-view (v ∷ vs) = ap suc (items_len-view vs)

list_any-map : {A B : Type 0} (p : B → Bool) (f : A → B) (xs : List A) → list_any p (map f xs) ≡ list_any (λ x. p (f x)) xs
list_any-map p f [] = refl
list_any-map p f (x ∷ xs) = ap (λ b. p (f x) || b) (list_any-map p f xs)

-- a name is taken by an organization or by a partner
pub taken_by : (name : List ℕ) (os : List Organization) (ps : List Partner)
    → list_any (bytes_eq name) (names os ps) ≡ (list_any (λ o. bytes_eq name o.name) os || list_any (λ p. bytes_eq name p.name) ps)
taken_by name os ps =
    list_any-append (bytes_eq name) (map (λ o. o.name) os) (map (λ p. p.name) ps)
    ∙ rw (list_any-map (bytes_eq name) (λ (o : Organization). o.name) os, list_any-map (bytes_eq name) (λ (p : Partner). p.name) ps) refl
