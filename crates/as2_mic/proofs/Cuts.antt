-- The first known name of a list that is cut at commas.
use Rattle.std.proofs.Common.{◌≡◌, ℕ, List, Option, Some, None, refl, sym, ap, ◌∙◌}
use Rattle.std.proofs.lemmas.List.Splits.{slice_split_none}
use Rattle.as2_mic.specs.declared.alg.Alg.{Alg}
use Rattle.as2_mic.specs.Algs.{Digests, alg_named, or_else, first_known_of}
use Rattle.as2_names.specs.Ascii.{comma}
use Rattle.as2_names.specs.Options.{is_comma}
use Rattle.as2_names.specs.Cuts.{Lacks, IsCutAt}
use Rattle.as2_names.proofs.Cuts.{parts_cut}
use Rattle.as2_names.specs.Blanks.{without_blanks}

first_cut : (known : Digests) (text before behind : List ℕ) → IsCutAt comma text before behind
    → first_known_of known text ≡ or_else (alg_named known (without_blanks before)) (first_known_of known behind)
first_cut known text before behind c = rw (parts_cut comma text before behind c) refl

or_else_none : (first : Option Alg) → or_else first None ≡ first
or_else_none (Some alg) = refl
or_else_none None = refl

pub first_whole : (known : Digests) (text : List ℕ) → Lacks comma text → first_known_of known text ≡ alg_named known (without_blanks text)
first_whole known text none = rw (slice_split_none is_comma text none) (or_else_none (alg_named known (without_blanks text)))

pub first_found : (known : Digests) (text before behind : List ℕ) (alg : Alg) → IsCutAt comma text before behind
    → alg_named known (without_blanks before) ≡ Some alg → first_known_of known text ≡ Some alg
first_found known text before behind alg c e = first_cut known text before behind c ∙ ap (λ (r : Option Alg). or_else r (first_known_of known behind)) e

pub first_on : (known : Digests) (text before behind : List ℕ) → IsCutAt comma text before behind → alg_named known (without_blanks before) ≡ None
    → first_known_of known behind ≡ first_known_of known text
first_on known text before behind c e = sym (first_cut known text before behind c ∙ ap (λ (r : Option Alg). or_else r (first_known_of known behind)) e)
