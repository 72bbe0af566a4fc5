-- A station's store: it is opened, led on and closed; or what is kept there is kept.
use Rattle.std.proofs.Common.{◌≡◌, ◌∙◌, ◌+◌, IsTrue, inl, inr, Bool, true, false, if◌then◌else◌, ℕ, List, Option, Some, None, Result, Ok, Err, sym, ap, subst}
use Rattle.std.specs.Prelude.{IfErr, IfOk, IfSome, string_bytes}
use Rattle.as2_agreement.specs.Agreements.{AgreedValues}
use Rattle.as2_exchange.specs.State.{State}
use Rattle.as2_host.specs.declared.stores.OpenStores.{Ghosts as Stores}
use Rattle.as2_agreement.specs.Reading.{agreements_reading}
use Rattle.as2_desk.specs.Refusals.{refusal_status}
use Rattle.as2_desk.specs.Statuses.{status_done}
use Rattle.as2_desk.specs.declared.agreed.AgreedText.{AgreedText}
use Rattle.as2_desk.specs.declared.refusal.CommandFault.{CommandFault}
use Rattle.as2_desk.specs.declared.refusal.CommandFault.TheVariants as fault
use Rattle.as2_loop.specs.Running.{GoesOnWith, HasRun, IfShut, IsOfText, IsOver, KeepsBasis, KeepsLeft, KeepsRecords, LeadsFrom, LeadsLeft, LeadsOn, LeadsRecords, TellsCame}
use Rattle.as2_loop.specs.declared.operating.Held.{Held}
use Rattle.as2_loop.specs.declared.operating.Spanned.{Spanned}
use Rattle.as2_loop.specs.declared.operating.Spanned.TheVariants as spanned
use Rattle.as2_loop.specs.declared.commands.Basis.{Basis}
use Rattle.as2_records.specs.Rounds.{PassesOn}
use Rattle.as2_records.specs.Standing.{Medium, Standing}

module _ {O Opened InMemory : Type 0} (g : Stores O Opened InMemory) (path : List ℕ) (new : O) where
  -- records that a station led on are kept once they are closed
  kept_led : {M N P : Medium} {H L : Type 0} (opened : Standing M) (holds : H → Standing N) (shows : L → Standing P) (basis : Basis) (held : H) (left : L)
      → PassesOn opened (holds held) → LeadsRecords holds shows basis held left → KeepsRecords g path (shows left) new
      → LeadsFrom g path basis.agreed.agreements opened.IsClean opened.Rests new
  kept_led opened holds shows basis held left passes turns keeps = record {
    clean = λ is. passes.clean (turns.clean (keeps.clean is));
    led = λ is s rests.
        let it = turns.led (keeps.clean is) s (passes.same (turns.clean (keeps.clean is)) s rests) in
        record { trace = it.trace; state = it.state; kept = keeps.kept is it.state it.kept; run = it.run; by_history = it.by_history };
  }

  -- .. or a round of them that was lost
  pub closed_behind : {M N P : Medium} {H L : Type 0} (opened : Standing M) (holds : H → Standing N) (in_round : L → Standing P) (basis : Basis) (held : H)
      (left : Result H L) → PassesOn opened (holds held) → LeadsLeft holds in_round basis held left → KeepsLeft g holds in_round path left new
      → LeadsFrom g path basis.agreed.agreements opened.IsClean opened.Rests new
  closed_behind opened holds in_round basis held (Ok left) passes turns keeps = kept_led opened holds holds basis held left passes turns keeps
  closed_behind opened holds in_round basis held (Err left) passes turns keeps = kept_led opened holds in_round basis held left passes turns keeps

module _ {O Opened InMemory : Type 0} (g : Stores O Opened InMemory) {M : Medium} (shows : Opened → Standing M) (path : List ℕ) (new : O) where
  -- a store that was opened anew is led on by whoever serves it
  pub opened_anew : {X E : Type 0} (at : List ℕ) → at ≡ path → (A : AgreedValues) (first : ℕ) (old : O) (records : Opened) (came : Result X E)
      → ((shows records).IsClean → g.is_clean old)
      → ((shows records).IsClean → IsTrue (shows records).is_open × ((s : State) → g.keeps old at first s → (shows records).Rests s))
      → IfOk came (λ (_ : X). LeadsFrom g path A (shows records).IsClean (shows records).Rests new) → g.opens new ≡ g.opens old + 1
      → IfOk came (λ (_ : X). LeadsOn g path A first old new)
  opened_anew at is A first old records (Ok x) before found led counted = inl (record {
    leads = record {
      clean = λ clean. before (led.clean clean);
      led = λ clean s kept. led.led clean s ((found (led.clean clean)).1 s (subst (λ (p : List ℕ). g.keeps old p first s) (sym is) kept));
    };
    counted = counted;
  })
  opened_anew at is A first old records (Err e) before found led counted = tt

  -- what was opened is what was kept
  pub opened_before : (A : AgreedValues) (first : ℕ) (old : O) (records : Opened) → ((shows records).IsClean → g.is_clean old)
      → ((shows records).IsClean → (s : State) → g.keeps old path first s → (shows records).Rests s)
      → LeadsFrom g path A (shows records).IsClean (shows records).Rests new → LeadsFrom g path A (g.is_clean old) (g.keeps old path first) new
  opened_before A first old records before found it = record {
    clean = λ is. before (it.clean is);
    led = λ is s kept. it.led is s (found (it.clean is) s kept);
  }

-- what holds of what is left holds where it is to go on
if_left : (is_shut : Bool) (held : Held) (P : Held → Type 0) → P held → IfShut (if is_shut then spanned.Shut held else spanned.Stopped held) P
if_left true held P it = it
if_left false held P it = tt

-- where a store couldn't be opened anew, what was kept is kept
pub kept_unopened : {O Opened InMemory : Type 0} (g : Stores O Opened InMemory) (at path : List ℕ) (old new : O) → at ≡ path
    → {X E : Type 0} (A : AgreedValues) (first : ℕ) (came : Result X E) → (g.is_clean new → g.is_clean old)
    → ((number : ℕ) (s : State) → g.keeps old at number s → g.keeps new at number s) → g.opens new ≡ g.opens old
    → IfOk came (λ (_ : X). LeadsOn g path A first old new)
kept_unopened g at path old new is A first (Ok x) clean same counted = inr (record {
  clean = clean;
  same = subst (λ (p : List ℕ). (number : ℕ) (s : State) → g.keeps old p number s → g.keeps new p number s) is same;
  counted = counted;
})
kept_unopened g at path old new is A first (Err e) clean same counted = tt

-- what came of a station that has run, and what is to go on
pub went : (basis : Basis) (L : Type 0) (came : Result Held CommandFault) (told : Spanned) → TellsCame came told → HasRun told
    → IfOk came (λ (_ : Held). L) → IfOk came (KeepsBasis basis) → L × IfShut told (λ (later : Held). later.basis ≡ basis)
went basis L (Ok held) told is has leads keeps =
    let Keeps = λ (later : Held). later.basis ≡ basis in
    (leads, subst (λ (t : Spanned). IfShut t Keeps) (sym is) (if_left held.shell.is_shut held Keeps keeps))
went basis L (Err refusal) told (ran, is, not) has leads keeps = absurd (subst HasRun is has)

if_shut : (P Q : Held → Type 0) (told : Spanned) → ((held : Held) → P held → Q held) → IfShut told P → IfShut told Q
if_shut P Q spanned.Elsewhere f it = it
if_shut P Q (spanned.Refused ran) f it = it
if_shut P Q (spanned.Stopped held) f it = it
if_shut P Q (spanned.Shut held) f it = f held it

-- the same of one that was begun over these agreements and this path
module _ (agreed : AgreedText) (path : List ℕ) (L : AgreedValues → Type 0) (text : agreements_reading agreed.text.items ≡ Ok agreed.agreements) where
  abbrev Behind : Held → Type 0
  Behind held = IsOfText held.basis × (held.basis.agreed.agreements ≡ agreed.agreements) × (string_bytes held.basis.store ≡ path)

  of_text : (held : Held) → held.basis.agreed ≡ agreed → IsOfText held.basis
  of_text held is = subst (λ (a : AgreedText). agreements_reading a.text.items ≡ Ok a.agreements) (sym is) text

  behind : (held later : Held) → IsOver agreed path held → later.basis ≡ held.basis → Behind later
  behind held later over is =
      let same : later.basis.agreed ≡ agreed = ap (λ (b : Basis). b.agreed) is ∙ over.0 in
      (of_text later same, ap (λ (a : AgreedText). a.agreements) same, ap (λ (b : Basis). string_bytes b.store) is ∙ over.1)

  pub began : {E : Type 0} (begun : Result Held E) (came : Result Held CommandFault) (told : Spanned) → IfOk begun (IsOver agreed path)
      → IfOk begun (λ (h : Held). IfOk came (KeepsBasis h.basis))
      → IfOk begun (λ (h : Held). IsOfText h.basis → string_bytes h.basis.store ≡ path → IfOk came (λ (_ : Held). L h.basis.agreed.agreements))
      → IfErr begun (λ (_ : E). came ≡ Err fault.CannotListen) → TellsCame came told → HasRun told → L agreed.agreements × IfShut told Behind
  began (Ok held) came told over keeps leads none tells has =
      let it = went held.basis (L held.basis.agreed.agreements) came told tells has (leads (of_text held over.0) over.1) keeps in (
        subst (λ (a : AgreedText). L a.agreements) over.0 it.0,
        if_shut (λ (later : Held). later.basis ≡ held.basis) Behind told (λ later is. behind held later over is) it.1,
      )
  began (Err e) came told over keeps leads none tells has =
      let it : TellsCame (Err fault.CannotListen) told = subst (λ (c : Result Held CommandFault). TellsCame c told) none tells in
      absurd (subst HasRun it.1 has)

-- what was begun, over the path that it was begun with
pub begun_at : {E : Type 0} (begun : Result Held E) (held : Held) (path : List ℕ) (Q : List ℕ → AgreedValues → Type 0) → begun ≡ Ok held
    → (IsOfText held.basis → Q (string_bytes held.basis.store) held.basis.agreed.agreements)
    → IfOk begun (λ (h : Held). IsOfText h.basis → string_bytes h.basis.store ≡ path → Q path h.basis.agreed.agreements)
begun_at {E} begun held path Q is leads =
    subst (λ (r : Result Held E). IfOk r (λ (h : Held). IsOfText h.basis → string_bytes h.basis.store ≡ path → Q path h.basis.agreed.agreements)) (sym is)
    (λ text same. subst (λ (p : List ℕ). Q p held.basis.agreed.agreements) same (leads text))

-- where no station was asked for none has run
pub none_run : (held : Option Held) (Q : Held → Type 0) → IfSome held (λ (h : Held). IsOfText h.basis → HasRun spanned.Elsewhere → Q h)
none_run None Q = tt
none_run (Some h) Q = λ text run. absurd run

-- one that was to go on has gone on
pub gone_on : {O Opened InMemory : Type 0} (g : Stores O Opened InMemory) (held : Option Held) (h : Held) (first : ℕ) (old new : O)
    (came : Result Held CommandFault) (told : Spanned) → held ≡ Some h → TellsCame came told → IfOk came (KeepsBasis h.basis)
    → (IsOfText h.basis → IfOk came (λ (_ : Held). LeadsOn g (string_bytes h.basis.store) h.basis.agreed.agreements first old new))
    → IfSome held (λ (h : Held). IsOfText h.basis → HasRun told → GoesOnWith g h old new told)
gone_on g held h first old new came told is tells keeps leads =
    subst (λ (o : Option Held). IfSome o (λ (h : Held). IsOfText h.basis → HasRun told → GoesOnWith g h old new told)) (sym is) (λ text has.
    let it = went h.basis (LeadsOn g (string_bytes h.basis.store) h.basis.agreed.agreements first old new) came told tells has (leads text) keeps in
    record { first = first; leads = it.0; behind = it.1 })

-- a refusal has no status of what is done
pub is_refusal : (refusal : CommandFault) → refusal_status refusal ≡ status_done → ⊥
is_refusal (fault.Store f) is = absurd cc
is_refusal fault.CannotRead is = absurd cc
is_refusal fault.CannotWrite is = absurd cc
is_refusal fault.Exists is = absurd cc
is_refusal fault.Memory is = absurd cc
is_refusal (fault.Agreements f) is = absurd cc
is_refusal (fault.Stream f) is = absurd cc
is_refusal (fault.Station f) is = absurd cc
is_refusal fault.CannotListen is = absurd cc
is_refusal fault.NoStation is = absurd cc
is_refusal fault.StationRuns is = absurd cc
is_refusal fault.OtherAgreements is = absurd cc
