-- The options of a value, a parameter at a time.
use Rattle.std.proofs.Common.{◌≡◌, ℕ, Bool, true, false, cond, List, [], ◌∷◌, Option, Some, None, refl, sym, ap, subst, ◌∙◌, inl, inr}
use Rattle.std.specs.Prelude.{filter_map, not, ◌&&◌, ◌||◌}
use Rattle.std.specs.Option.{is_some}
use Rattle.std.specs.List.{list_all, list_any, slice_split}
use Rattle.std.proofs.lemmas.Bool.{cases_Bool, and_parts, and_from, or_left, or_right}
use Rattle.std.proofs.lemmas.List.Splits.{slice_split_none}
use Rattle.as2_names.specs.Ascii.{comma, equals_sign, semicolon}
use Rattle.as2_names.specs.Blanks.{without_blanks}
use Rattle.as2_names.specs.Cuts.{Lacks, IsCutAt, cut_at}
use Rattle.as2_names.proofs.Cuts.{parts_cut, cut_found, cut_some}
use Rattle.as2_text.specs.declared.receipt_option.Importance.{Importance}
use Rattle.as2_media.specs.Bytes.{is_token}
use Rattle.as2_text.specs.ReceiptOptions.{ReceiptOption, AreOptions, IsOption, IsOptions, are_options, are_values, importance_of, is_empty, is_readable, option_behind, option_cut, option_with, are_distinct, first_named, has_name, is_other_required, is_required_other, is_semicolon, named_again, option_of, options_in, where_named}

-- ---- the options of a text that is cut

-- the option, where there is one, and those behind it
abbrev more : Option ReceiptOption → List ReceiptOption → List ReceiptOption
more None rest = rest
more (Some option) rest = option ∷ rest

more_of : (first : Option ReceiptOption) (texts : List (List ℕ)) → (text : List ℕ) → option_of text ≡ first
    → filter_map option_of (text ∷ texts) ≡ more first (filter_map option_of texts)
more_of None texts text e = rw e refl
more_of (Some option) texts text e = rw e refl

options_cut : (text before behind : List ℕ) → IsCutAt semicolon text before behind → options_in text ≡ more (option_of before) (options_in behind)
options_cut text before behind c = ap (filter_map option_of) (parts_cut semicolon text before behind c)
    ∙ more_of (option_of before) (slice_split is_semicolon behind) before refl

options_whole : (text : List ℕ) → Lacks semicolon text → options_in text ≡ more (option_of text) []
options_whole text lacks = ap (filter_map option_of) (slice_split_none is_semicolon text lacks) ∙ more_of (option_of text) [] text refl

-- ---- the first option of a name

abbrev first_option : Option ReceiptOption → Option ReceiptOption → Option ReceiptOption
first_option None other = other
first_option (Some option) other = Some option

first_more : (name : List ℕ) (first : Option ReceiptOption) (rest : List ReceiptOption)
    → first_named name (more first rest) ≡ first_option (where_named name first) (first_named name rest)
first_more name None rest = refl
first_more name (Some option) rest =
    elim (cases_Bool (has_name name option)) [
      | inl t ↦ rw t refl
      | inr f ↦ rw f refl
    ]

first_cut : (name text before behind : List ℕ) → IsCutAt semicolon text before behind
    → first_named name (options_in text) ≡ first_option (where_named name (option_of before)) (first_named name (options_in behind))
first_cut name text before behind c = ap (first_named name) (options_cut text before behind c) ∙ first_more name (option_of before) (options_in behind)

pub first_found : (name text before behind : List ℕ) (option : ReceiptOption) → IsCutAt semicolon text before behind
    → where_named name (option_of before) ≡ Some option → first_named name (options_in text) ≡ Some option
first_found name text before behind option c e = first_cut name text before behind c
    ∙ ap (λ (r : Option ReceiptOption). first_option r (first_named name (options_in behind))) e

pub first_on : (name text before behind : List ℕ) → IsCutAt semicolon text before behind → where_named name (option_of before) ≡ None
    → first_named name (options_in behind) ≡ first_named name (options_in text)
first_on name text before behind c e =
    sym (first_cut name text before behind c ∙ ap (λ (r : Option ReceiptOption). first_option r (first_named name (options_in behind))) e)

or_none : (first : Option ReceiptOption) → first_option first None ≡ first
or_none None = refl
or_none (Some option) = refl

pub first_whole : (name text : List ℕ) → Lacks semicolon text → first_named name (options_in text) ≡ where_named name (option_of text)
first_whole name text lacks = ap (first_named name) (options_whole text lacks) ∙ first_more name (option_of text) []
    ∙ or_none (where_named name (option_of text))

pub found_any : (name : List ℕ) (options : List ReceiptOption) → is_some (first_named name options) ≡ list_any (has_name name) options
found_any name [] = refl
found_any name (option ∷ rest) =
    elim (cases_Bool (has_name name option)) [
      | inl t ↦ rw t refl
      | inr f ↦ rw f (found_any name rest)
    ]

-- ---- names that stand there twice

distinct_more : (first : Option ReceiptOption) (rest : List ReceiptOption)
    → are_distinct (more first rest) ≡ (not (named_again first rest) && are_distinct rest)
distinct_more None rest = refl
distinct_more (Some option) rest = refl

distinct_cut : (text before behind : List ℕ) → IsCutAt semicolon text before behind
    → are_distinct (options_in text) ≡ (not (named_again (option_of before) (options_in behind)) && are_distinct (options_in behind))
distinct_cut text before behind c = ap are_distinct (options_cut text before behind c) ∙ distinct_more (option_of before) (options_in behind)

pub twice_found : (text before behind : List ℕ) → IsCutAt semicolon text before behind → named_again (option_of before) (options_in behind) ≡ true
    → false ≡ are_distinct (options_in text)
twice_found text before behind c e = sym (distinct_cut text before behind c ∙ ap (λ (t : Bool). not t && are_distinct (options_in behind)) e)

pub distinct_on : (text before behind : List ℕ) → IsCutAt semicolon text before behind → named_again (option_of before) (options_in behind) ≡ false
    → are_distinct (options_in behind) ≡ are_distinct (options_in text)
distinct_on text before behind c e = sym (distinct_cut text before behind c ∙ ap (λ (t : Bool). not t && are_distinct (options_in behind)) e)

one_is_distinct : (first : Option ReceiptOption) → true ≡ are_distinct (more first [])
one_is_distinct None = refl
one_is_distinct (Some option) = refl

pub distinct_whole : (text : List ℕ) → Lacks semicolon text → true ≡ are_distinct (options_in text)
distinct_whole text lacks = one_is_distinct (option_of text) ∙ sym (ap are_distinct (options_whole text lacks))

-- ---- options that are required

required_more : (first : Option ReceiptOption) (texts : List (List ℕ)) (text : List ℕ) → option_of text ≡ first
    → list_any is_other_required (filter_map option_of (text ∷ texts)) ≡
    (is_required_other (option_of text) || list_any is_other_required (filter_map option_of texts))
required_more None texts text e = rw e refl
required_more (Some option) texts text e = rw e refl

pub required_among : (texts : List (List ℕ))
    → list_any (λ text. is_required_other (option_of text)) texts ≡ list_any is_other_required (filter_map option_of texts)
required_among [] = refl
required_among (text ∷ texts) = ap (λ (t : Bool). is_required_other (option_of text) || t) (required_among texts)
    ∙ sym (required_more (option_of text) texts text refl)

-- ---- what is said, and what is read

guarded : (t : Bool) (r : ReceiptOption) (option : ReceiptOption) → cond t (Some r) None ≡ Some option → (t ≡ true) × (r ≡ option)
guarded true r option e = (refl, cc)
guarded false r option e = absurd cc

-- the option of a parameter that is cut at `=` and then at a comma
with_found : (parameter : List ℕ) (named valued : List ℕ × List ℕ) (option : ReceiptOption) → IsCutAt equals_sign parameter named.0 named.1
    → IsCutAt comma named.1 valued.0 valued.1
    → (importance : Option Importance) → importance_of (without_blanks valued.0) ≡ importance
    → option_with (without_blanks named.0) importance valued.1 ≡ Some option → IsOption parameter option
with_found parameter named valued option c d None i e = absurd cc
with_found parameter named valued option c d (Some importance) i e =
    let name : List ℕ = without_blanks named.0 in
    let whole : ReceiptOption = record { name = name; importance = importance; values = without_blanks valued.1 } in
    let g = guarded (is_token name && are_values valued.1) whole option e in
    let tests = and_parts (is_token name) (are_values valued.1) g.0 in
    subst (IsOption parameter) g.1 (record {
      before_equals = named.0;
      behind_equals = named.1;
      word = valued.0;
      given = valued.1;
      equals = c;
      comma = d;
      name = refl;
      is_name = tests.0;
      importance = i;
      values = refl;
      are_values = tests.1;
    })

behind_found : (parameter : List ℕ) (named : List ℕ × List ℕ) (option : ReceiptOption) → IsCutAt equals_sign parameter named.0 named.1
    → (cut : Option (List ℕ × List ℕ)) → cut_at comma named.1 ≡ cut → option_behind (without_blanks named.0) cut ≡ Some option → IsOption parameter option
behind_found parameter named option c None d e = absurd cc
behind_found parameter named option c (Some valued) d e =
    with_found parameter named valued option c (cut_found comma named.1 valued d) (importance_of (without_blanks valued.0)) refl e

cut_is_option : (parameter : List ℕ) (option : ReceiptOption) (cut : Option (List ℕ × List ℕ)) → cut_at equals_sign parameter ≡ cut
    → option_cut cut ≡ Some option → IsOption parameter option
cut_is_option parameter option None c e = absurd cc
cut_is_option parameter option (Some named) c e = behind_found parameter named option (cut_found equals_sign parameter named c) (cut_at comma named.1) refl e

-- an option that is read is one
option_found : (parameter : List ℕ) (option : ReceiptOption) → is_empty parameter ≡ false → option_of parameter ≡ Some option → IsOption parameter option
option_found parameter option some e =
    let read : option_of parameter ≡ option_cut (cut_at equals_sign parameter) = rw some refl in
    cut_is_option parameter option (cut_at equals_sign parameter) refl (sym read ∙ e)

-- a parameter that is an option is read as it
option_again : (parameter : List ℕ) (option : ReceiptOption) → is_empty parameter ≡ false → IsOption parameter option → option_of parameter ≡ Some option
option_again parameter option some o =
    let first : cut_at equals_sign parameter ≡ Some (o.before_equals, o.behind_equals) =
    cut_some equals_sign parameter o.before_equals o.behind_equals o.equals in
    let second : cut_at comma o.behind_equals ≡ Some (o.word, o.given) = cut_some comma o.behind_equals o.word o.given o.comma in
    let token : is_token (without_blanks o.before_equals) ≡ true = rw (← o.name) o.is_name in
    let read : option_of parameter ≡ Some
    (record { name = without_blanks o.before_equals; importance = option.importance; values = without_blanks o.given }) =
    rw (some, first, second, o.importance, token, o.are_values) refl in
    read ∙ (λ i. Some (record { name = sym o.name i; importance = option.importance; values = sym o.values i }))

-- ---- the parameters

none_when_empty : (parameter : List ℕ) → is_empty parameter ≡ true → option_of parameter ≡ None
none_when_empty parameter e = rw e refl

skipped : (parameter : List ℕ) (rest : List (List ℕ)) → is_empty parameter ≡ true → filter_map option_of (parameter ∷ rest) ≡ filter_map option_of rest
skipped parameter rest e = more_of None rest parameter (none_when_empty parameter e)

read_next : (parameter : List ℕ) (rest : List (List ℕ)) (first : Option ReceiptOption) → option_of parameter ≡ first → is_some first ≡ true
    → is_empty parameter ≡ false
    → AreOptions rest (filter_map option_of rest) → AreOptions (parameter ∷ rest) (filter_map option_of (parameter ∷ rest))
read_next parameter rest None e h some others = absurd cc
read_next parameter rest (Some option) e h some others =
    inr (some, (option, filter_map option_of rest, more_of (Some option) rest parameter e, option_found parameter option some e, others))

all_found : (parameters : List (List ℕ)) → list_all is_readable parameters ≡ true → AreOptions parameters (filter_map option_of parameters)
all_found [] h = refl
all_found (parameter ∷ rest) h =
    let tests = and_parts (is_readable parameter) (list_all is_readable rest) h in
    let others = all_found rest tests.1 in
    elim (cases_Bool (is_empty parameter)) [
      | inl none ↦ inl (none, subst (AreOptions rest) (sym (skipped parameter rest none)) others)
      | inr some ↦ read_next parameter rest (option_of parameter) refl
          (subst (λ (t : Bool). (t || is_some (option_of parameter)) ≡ true) some tests.0) some others
    ]

-- the parameters can be read, and as those options
record AreRead (parameters : List (List ℕ)) (options : List ReceiptOption) : Type 0 where
  pub readable : list_all is_readable parameters ≡ true
  pub gives : filter_map option_of parameters ≡ options

all_again : (parameters : List (List ℕ)) (options : List ReceiptOption) → AreOptions parameters options → AreRead parameters options
all_again [] options a = record { readable = refl; gives = sym a }
all_again (parameter ∷ rest) options (inl a) =
    let r = all_again rest options a.1 in
    record {
      readable = and_from (is_readable parameter) (list_all is_readable rest) (or_left (is_empty parameter) (is_some (option_of parameter)) a.0) r.readable;
      gives = skipped parameter rest a.0 ∙ r.gives;
    }
all_again (parameter ∷ rest) options (inr a) =
    let read : option_of parameter ≡ Some a.1.0 = option_again parameter a.1.0 a.0 a.1.3 in
    let r = all_again rest a.1.1 a.1.4 in
    record {
      readable = and_from (is_readable parameter) (list_all is_readable rest)
          (or_right (is_empty parameter) (is_some (option_of parameter)) (ap is_some read)) r.readable;
      gives = more_of (Some a.1.0) rest parameter read ∙ ap (λ (x : List ReceiptOption). a.1.0 ∷ x) r.gives ∙ sym a.1.2;
    }

pub options_found : (value : List ℕ) → are_options value ≡ true → IsOptions value (options_in value)
options_found value e =
    let tests = and_parts (list_all is_readable (slice_split is_semicolon value)) (are_distinct (options_in value)) e in
    record { are = all_found (slice_split is_semicolon value) tests.0; distinct = tests.1 }

-- a value that says options can be read, and as those
pub record IsReadAs (value : List ℕ) (options : List ReceiptOption) : Type 0 where
  pub readable : are_options value ≡ true
  pub gives : options_in value ≡ options

pub options_again : (value : List ℕ) (options : List ReceiptOption) → IsOptions value options → IsReadAs value options
options_again value options o =
    let r = all_again (slice_split is_semicolon value) options o.are in
    record {
      readable = and_from (list_all is_readable (slice_split is_semicolon value)) (are_distinct (options_in value)) r.readable (rw r.gives o.distinct);
      gives = r.gives;
    }
