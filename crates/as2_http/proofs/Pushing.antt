-- A text that is written in parts.
use Rattle.std.proofs.Common.{◌≡◌, ℕ, zero, suc, List, [], ◌∷◌, ◌++◌, take, drop, Option, Ok, refl, sym, ap, ◌∙◌, append_assoc}
use Rattle.std.proofs.KnownBytes.{Appends-trans}
use Rattle.std.proofs.lemmas.List.{take-append-drop}
use Rattle.std.specs.Io.KnownBytes.{Appends}
use Rattle.as2_http.specs.Devices.{push_faults}

-- the first of the bytes were written, and these are left
pub record Pushed (before now : Option (List ℕ)) (bytes rest : List ℕ) : Type 0 where
  pub part : List ℕ
  pub cut : bytes ≡ part ++ rest
  pub appended : Appends before now part

pub pushed_more : {before mid now : Option (List ℕ)} {bytes rest : List ℕ} (n : ℕ) → Pushed before mid bytes rest → Appends mid now (take n rest)
    → Pushed before now bytes (drop n rest)
pushed_more {before} {mid} {now} {rest} n w a = record {
  part = w.part ++ take n rest;
  cut = w.cut ∙ ap (λ (t : List ℕ). w.part ++ t) (sym (take-append-drop n rest)) ∙ sym (append_assoc w.part (take n rest) (drop n rest));
  appended = Appends-trans before mid now w.part (take n rest) w.appended a;
}

-- a write that takes some bytes didn't fail
pub none_failed : (E : Type 0) (bytes : List ℕ) (n : ℕ) → (n ≡ 0 → ⊥) → push_faults {E = E} bytes (Ok n) ≡ 0
none_failed E [] n some = refl
none_failed E (b ∷ bytes) zero some = absurd (some refl)
none_failed E (b ∷ bytes) (suc n) some = refl
