-- Findings, a row at a time.
use Rattle.std.proofs.Common.{◌≡◌, ◌∙◌, ◌<◌, ◌++◌, ◌+◌, ℕ, suc, List, [], ◌∷◌, Ok, Option, None, length, take, get_or, append-nil, ap, sym, refl, arith}
use Rattle.std.specs.List.{filter, flat_map}
use Rattle.std.proofs.lemmas.List.{flat_map_more}
use Rattle.std.proofs.Math.Seq.{take-length, take-suc}
use Rattle.as2_exchange.specs.State.{State}
use Rattle.as2_exchange.specs.Progress.{is_in}
use Rattle.as2_exchange.specs.declared.outbox.OutEntry.{OutEntry}
use Rattle.as2_exchange.specs.declared.fault.StoreFault.{StoreFault}
use Rattle.as2_records.specs.Standing.{Medium, Standing}
use Rattle.as2_records.specs.Calls.{Reads}
use Rattle.as2_records.proofs.Following.{read_ok, read_then}
use Rattle.as2_audit.specs.declared.fault.Fault.{Fault}
use Rattle.as2_audit.specs.declared.findings.Finding.{Finding}

module _ {Row : Type 0} (from : State → List Row → Type 0) (finds : State → Row → List Finding) where
  -- the rows are those of the state, and what is found of so many of them stands behind what stood there
  pub record AreFound (was now : List Finding) (i : ℕ) (rows : List Row) (s : State) : Type 0 where
    pub read : from s rows
    pub found : now ≡ was ++ flat_map (finds s) (take i rows)

one_behind : (i : ℕ) → suc i ≡ i + 1
one_behind i = omega arith

module _ {M : Medium} {Row : Type 0} (from : State → List Row → Type 0) (finds : State → Row → List Finding) where
  abbrev pub SoFar : Standing M → Standing M → List Finding → List Finding → ℕ → List Row → Type 0
  SoFar old new was now i rows = Reads {A = List Row} {E = StoreFault} (λ s _. AreFound from finds was now i rows s) old new (Ok rows)

  pub begun : {A E : Type 0} (fits : State → A → Type 0) (old mid : Standing M) (a : A) (rows : List Row) (was : List Finding)
      → ((s : State) → old.Rests s → fits s a → from s rows)
      → Reads {A = A} {E = E} fits old mid (Ok a) → SoFar old mid was was 0 rows
  begun fits old mid a rows was are read =
      read_ok fits (λ s _. AreFound from finds was was 0 rows s) old mid a rows
      (λ s rests is. record { read = are s rests is; found = sym (append-nil was) }) read

  pub one_more : (more : State → Option Fault
      → Type 0) (old mid new : Standing M) (was now after : List Finding) (i : ℕ) (rows : List Row) (d : Row) (fault : Option Fault) → i < length rows
      → ((s : State) → from s rows → more s fault → after ≡ now ++ finds s (get_or rows i d))
      → SoFar old mid was now i rows → Reads {A = Option Fault} {E = StoreFault} more mid new (Ok fault) → SoFar old new was after (i + 1) rows
  one_more more old mid new was now after i rows d fault below found before read =
      read_then (λ s _. AreFound from finds was now i rows s) (λ s (r : List Row). more s fault)
      (λ s _. AreFound from finds was after (i + 1) rows s) old mid new rows (Ok rows)
      (λ s r rests first then. record {
        read = first.read;
        found = found s first.read then ∙ ap (λ (l : List Finding). l ++ finds s (get_or rows i d)) first.found
            ∙ flat_map_more (finds s) was (take i rows) (get_or rows i d)
            ∙ ap (λ (l : List Row). was ++ flat_map (finds s) l) (sym (take-suc rows i d below) ∙ ap (λ (n : ℕ). take n rows) (one_behind i));
      })
      before (read_ok more (λ s (r : List Row). more s fault) mid new fault rows (λ s rests is. is) read)

  pub all : {B : Type 0} (both : State → B → Type 0) (old new : Standing M) (was now : List Finding) (i : ℕ) (rows : List Row) (b : B) → i ≡ length rows
      → ((s : State) → from s rows → now ≡ was ++ flat_map (finds s) rows → both s b) → SoFar old new was now i rows
      → Reads {A = B} {E = StoreFault} both old new (Ok b)
  all both old new was now i rows b whole then read =
      read_ok (λ s _. AreFound from finds was now i rows s) both old new rows b
      (λ s rests is. then s is.read
      (is.found ∙ ap (λ (n : ℕ). was ++ flat_map (finds s) (take n rows)) whole ∙ ap (λ (l : List Row). was ++ flat_map (finds s) l) (take-length rows))) read

-- a listing of all is of each document
pub all_listed : (outbox : List OutEntry) → filter (is_in None) outbox ≡ outbox
all_listed [] = refl
all_listed (d ∷ rest) = ap (λ (l : List OutEntry). d ∷ l) (all_listed rest)
