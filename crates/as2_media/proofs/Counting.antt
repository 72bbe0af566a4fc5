-- Parameters that are read one after the other.
use Rattle.std.proofs.Common.{◌≡◌, ℕ, zero, suc, ◌-◌, ◌<◌, false, List, [], ◌∷◌, ◌++◌, length, Some, arith}
use Rattle.std.specs.Prelude.{◌==◌}
use Rattle.std.proofs.lemmas.List.{length_push}
use Rattle.as2_names.specs.Names.{with_front}
use Rattle.as2_names.specs.Trim.{trimmed_text}
use Rattle.as2_names.proofs.Scanning.{front_push}
use Rattle.as2_media.specs.Parameters.{parameter, parameters}

one_more : (room : ℕ) (held : List (List ℕ × List ℕ)) (p : List ℕ × List ℕ) (text : List ℕ) (texts : List (List ℕ)) → 0 < room
    → (length (trimmed_text text) == 0) ≡ false → parameter text ≡ Some p
    → with_front (held ++ p ∷ []) (parameters (room - 1) texts) ≡ with_front held (parameters room (text ∷ texts))
one_more zero held p text texts lt some is = absurd (omega (arith, lt))
one_more (suc room) held p text texts lt some is = rw (some, is) (front_push held p (parameters (suc room - 1) texts))

-- the parameter goes behind those that are held, where there is room
pub taken : (held : List (List ℕ × List ℕ)) (p : List ℕ × List ℕ) (text : List ℕ) (texts : List (List ℕ)) → length held < 8
    → (length (trimmed_text text) == 0) ≡ false → parameter text ≡ Some p
    → with_front (held ++ p ∷ []) (parameters (8 - length (held ++ p ∷ [])) texts) ≡ with_front held (parameters (8 - length held) (text ∷ texts))
taken held p text texts lt some is =
    let room : 8 - length (held ++ p ∷ []) ≡ 8 - length held - 1 = omega (arith, length_push held p, lt) in
    rw room (one_more (8 - length held) held p text texts (omega (arith, lt)) some is)
