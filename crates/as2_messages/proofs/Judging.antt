-- The bytes are no head where the parser found none of their length, or a head doesn't take its fields.
use Rattle.std.proofs.Common.{◌≡◌, ℕ, ◌+◌, ◌<◌, ◌≤◌, List, [], ◌∷◌, ◌++◌, length, map, take, Some, None, Result, Ok, Err, refl, sym, ap, ◌∙◌, arith, inl, inr, nat_lt, append-nil}
use Rattle.std.proofs.lemmas.Bool.{cases_Bool}
use Rattle.std.proofs.lemmas.Bool.Decides.{nat_tests}
use Rattle.std.proofs.lemmas.List.{length-append, length-map}
use Rattle.httparse.specs.Grammar.{RequestHead, print_request}
use Rattle.httparse.specs.Spans.{FindsRequest, header_bytes, name_and_value}
use Rattle.httparse.specs.declared.Error.{Error}
use Rattle.httparse.specs.declared.Status.{Status}
use Rattle.httparse.specs.declared.Status.TheVariants.{Complete, Partial}
use Rattle.httparse.specs.declared.spans.HeaderSpan.{HeaderSpan}
use Rattle.httparse.specs.declared.spans.RequestSpans.{RequestSpans}
use Rattle.as2_names.specs.Heads.{is_field, field_of}
use Rattle.as2_messages.specs.Requests.{Fields, fields_behind, IsHead}

-- a head takes no more than 64 fields
pub appended_fits : (fields more all : Fields) → length fields ≤ 64 → fields_behind fields more ≡ Some all → length fields + length more ≤ 64
appended_fits fields [] all fits h = omega arith
appended_fits fields (f ∷ more) all fits h =
    elim (cases_Bool (is_field f.0 f.1)) [
      | inl t ↦ elim (cases_Bool (nat_lt (length fields) 64)) [
        | inl room ↦
            let e : fields_behind fields (f ∷ more) ≡ fields_behind (fields ++ field_of f.0 f.1 ∷ []) more = rw (t, room) refl in
            let n : length (fields ++ field_of f.0 f.1 ∷ []) ≡ length fields + 1 = length-append fields (field_of f.0 f.1 ∷ []) in
            let below : length fields < 64 = grind (arith, nat_tests) in
            let r = appended_fits (fields ++ field_of f.0 f.1 ∷ []) more all (omega (arith, n, below)) (sym e ∙ h) in
            omega (arith, n, r)
        | inr full ↦ let e : fields_behind fields (f ∷ more) ≡ None = rw (t, full) refl in absurd (cc (sym e ∙ h))
      ]
      | inr bad ↦ let e : fields_behind fields (f ∷ more) ≡ None = rw bad refl in absurd (cc (sym e ∙ h))
    ]

pub few_fields : (buf : List ℕ) (head : RequestHead) (fields : Fields) → IsHead buf head fields → length head.fields ≤ 64
few_fields buf head fields h =
    omega (arith, length-map head.fields name_and_value, appended_fits [] (map name_and_value head.fields) fields (omega arith) h.1)

pub not_complete : (buf : List ℕ) (headers : List HeaderSpan) (r : Result (Status RequestSpans) Error) → FindsRequest buf 64 headers r
    → ((s : RequestSpans) → r ≡ Ok (Complete s) → ⊥)
    → (head : RequestHead) (fields : Fields) → IsHead buf head fields → ⊥
not_complete buf headers (Ok (Complete s)) f not head fields h = absurd (not s refl)
not_complete buf headers (Ok Partial) f not head fields h = f head [] h.0 (few_fields buf head fields h)
not_complete buf headers (Err e) f not head fields h = f head [] h.0 (few_fields buf head fields h)

-- a head of another length
pub not_shorter : (buf : List ℕ) (headers : List HeaderSpan) (r : Result (Status RequestSpans) Error) (s : RequestSpans) → FindsRequest buf 64 headers r
    → r ≡ Ok (Complete s) → (s.len ≡ length buf → ⊥)
    → (head : RequestHead) (fields : Fields) → IsHead buf head fields → ⊥
not_shorter buf headers (Ok (Complete q)) s f is other head fields h =
    let at = f head [] h.0 (few_fields buf head fields h) in
    let same : q ≡ s = cc in
    other (ap (λ (x : RequestSpans). x.len) (sym same) ∙ at.len ∙ ap length (sym (h.0.1 ∙ append-nil (print_request head))))
not_shorter buf headers (Ok Partial) s f is other head fields h = absurd cc
not_shorter buf headers (Err e) s f is other head fields h = absurd cc

-- a head whose fields aren't taken
pub not_taken : (buf : List ℕ) (headers : List HeaderSpan) (r : Result (Status RequestSpans) Error) (s : RequestSpans) → FindsRequest buf 64 headers r
    → r ≡ Ok (Complete s)
    → fields_behind [] (map (header_bytes buf) (take s.headers headers)) ≡ None
    → (head : RequestHead) (fields : Fields) → IsHead buf head fields → ⊥
not_taken buf headers (Ok (Complete q)) s f is none head fields h =
    let at = f head [] h.0 (few_fields buf head fields h) in
    let same : q ≡ s = cc in
    let e : map (header_bytes buf) (take s.headers headers) ≡ map name_and_value head.fields =
    ap (λ (x : RequestSpans). map (header_bytes buf) (take x.headers headers)) (sym same) ∙ at.fields in
    absurd (cc (sym none ∙ ap (fields_behind []) e ∙ h.1))
not_taken buf headers (Ok Partial) s f is none head fields h = absurd cc
not_taken buf headers (Err e) s f is none head fields h = absurd cc
