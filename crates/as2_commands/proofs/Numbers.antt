-- What a typed read of an option tells of the number that its text says.
use Rattle.std.proofs.Common.{◌≡◌, ◌<◌, ◌^◌, ℕ, Option, Some, None, Result, Ok, Err, MatchResult, refl, subst, arith}
use Rattle.std.specs.Str.Parse.{ParsesUnsigned}
use Rattle.clap.specs.Walk.{Text}
use Rattle.clap.specs.Matches.{TriesOne}
use Rattle.as2_commands.specs.Options.{NumberIs, SecondsAre, TellsMoment, TellsOption}

-- a value is there, and says no number
pub record SaysNone (o : Option Text) : Type 0 where
  pub none : (n : ℕ) → n < 2 ^ 64 → NumberIs o n → ⊥
  pub no_seconds : (clock : Option ℕ) (n : ℕ) → n < 2 ^ 64 → SecondsAre o clock n → ⊥
  pub some : o ≡ None → ⊥

pub number_told : (E : Type 0) (G : Text → Result ℕ E → Type 0) (o : Option Text) (r : Result (Option ℕ) E)
    → ((u : Text) (x : Result ℕ E) → G u x → ParsesUnsigned 64 10 u x)
    → (o ≡ None → r ≡ Ok None) → ((t : Text) → o ≡ Some t → TriesOne G t r)
    → MatchResult r (TellsOption o) (λ _. SaysNone o)
number_told E G None (Ok None) parses none some = tt
number_told E G None (Ok (Some n)) parses none some = let bad : Ok (Some n) ≡ Ok None = none refl in cc
number_told E G None (Err e) parses none some = let bad : Err e ≡ Ok None = none refl in cc
number_told E G (Some t) (Ok None) parses none some = absurd (some t refl)
number_told E G (Some t) (Ok (Some n)) parses none some =
    let read = parses t (Ok n) (some t refl) in (read.0.0, read.1)
number_told E G (Some t) (Err e) parses none some =
    let unread = parses t (Err e) (some t refl) in
    record {
      none = λ n small says. unread (says.0, subst (λ v. v < 2 ^ 64) says.1 small);
      no_seconds = λ clock n small says. unread (says.0, subst (λ v. v < 2 ^ 64) says.1 small);
      some = λ is. cc;
    }

pub no_moment : (o : Option Text) → ((n : ℕ) → n < 2 ^ 64 → NumberIs o n → ⊥) → (o ≡ None → ⊥) → (moment : Option ℕ) → TellsMoment o moment → ⊥
no_moment None none some moment tells = some refl
no_moment (Some text) none some None tells = tells.0
no_moment (Some text) none some (Some n) tells = none n (omega (arith, tells.1)) tells.0
