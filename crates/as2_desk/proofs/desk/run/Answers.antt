use Rattle.std.proofs.Common.{◌≡◌, ◌∙◌, codes, sym, arith, inl, inr, refl}
use Rattle.as2_host.specs.Networks.{ExchangedOver, listening_of}
use Rattle.clap.specs.Walk.{Text, texts}
use Rattle.as2_commands.proofs.Given.{given_one}
use Rattle.as2_desk.proofs.Stopping.{stopped_by}
use Rattle.as2_desk.specs.Observed.{errors_of, filing_of, input_of, console_outcome, output_of, stored_of}
use Rattle.as2_desk.specs.Runs.{Runs}
use Rattle.as2_desk.specs.Statuses.{status_faulty, status_refused}
use Rattle.as2_desk.specs.Stores.{IsKeptAt}
use Rattle.as2_commands.specs.declared.tasks.Task.{Task}
use Rattle.as2_desk.proofs.desk.run.Goals as goal

-- here the words ask for something, and that is what was read
pub returns-in-Ok-clause-unread : goal.returns-in-Ok-clause-unread
returns-in-Ok-clause-unread g c = λ none.
    let read = c.in-Ok.options in
    absurd {A = (c.carry_out-done.new.console.input ≡ c.args.console.now.input) × (c.carry_out-done.new.host.stores ≡ c.args.host.now.stores)
    × (c.carry_out-done.new.host.outside ≡ c.args.host.now.outside)} (none read.agreements.now read.store.now read.task c.in-Ok.ensures.given)

pub returns-in-Ok-clause-runs : goal.returns-in-Ok-clause-runs
returns-in-Ok-clause-runs g c = λ path store task gives.
    let read = c.in-Ok.options in
    let was = c.args.host.now.stores in
    let is = c.carry_out-done.new.host.stores in
    inl (given_one (texts c.args.words.now) c.args.clock read.agreements.now path read.store.now store read.task task
    (λ (p b : Text) (t : Task). Runs (g.F.ReadFiles.content c.args.host.now.outside.files) p t
    (record {
      input = input_of g.R.Source c.args.console.now c.carry_out-done.new.console;
      outcome = console_outcome g.W.Sink g.E.Sink c.args.console.now c.carry_out-done.new.console (IsKeptAt b (g.O.OpenStores.keeps is b));
      filing = filing_of g.F.MakeFiles c.args.host.now.outside.files c.carry_out-done.new.host.outside.files;
      Unasked = c.carry_out-done.new.host.outside.network ≡ c.args.host.now.outside.network;
      Exchanged = ExchangedOver g.N.Network g.N.Links.Links c.args.host.now.outside.network c.carry_out-done.new.host.outside.network;
      listening = listening_of g.N.Network g.N.Listener.Listens c.args.host.now.outside.network c.carry_out-done.new.host.outside.network;
    })
    (stored_of g.O.OpenStores was is b) c.carry_out-done.result)
    c.in-Ok.ensures.given gives
    (record { opened = c.agreements_in-agreed.result.0; opens = c.agreements_in-agreed.ensures; comes = c.carry_out-done.ensures.comes }))

pub returns-in-Ok-clause-memory : goal.returns-in-Ok-clause-memory
returns-in-Ok-clause-memory g c = λ path task gives.
    let read = c.in-Ok.options in
    given_one (texts c.args.words.now) c.args.clock read.agreements.now path read.store.now (codes ":memory:") read.task task
    (λ (p b : Text) (t : Task). b ≡ codes ":memory:" → c.carry_out-done.new.host.stores ≡ c.args.host.now.stores)
    c.in-Ok.ensures.given gives c.carry_out-done.ensures.memory refl

pub returns-in-Ok-clause-store : goal.returns-in-Ok-clause-store
returns-in-Ok-clause-store g c = λ is_failed.
    let read = c.in-Ok.options in
    let was = c.args.console.now in
    let is = c.carry_out-done.new.console in
    stopped_by (input_of g.R.Source was is) (output_of g.W.Sink was is) (errors_of g.E.Sink was is) c.carry_out-done.result
    (λ sends. (read.agreements.now, read.store.now, read.task, c.in-Ok.ensures.given, sends))
    (λ serves. (read.agreements.now, read.store.now, read.task, c.in-Ok.ensures.given, serves))
    (c.carry_out-done.ensures.store is_failed)

-- here memory was wanting, since the words ask for something
pub returns-in-Err-clause-given : goal.returns-in-Err-clause-given
returns-in-Err-clause-given g c = λ path store task gives is_faulty. elim c.tell.ensures.memory [
  | inl wanting ↦ let bad : status_refused ≡ status_faulty = sym wanting.1.ended ∙ is_faulty in omega arith
  | inr other ↦ c.in-Err.ensures.none other path store task gives
]

pub returns-in-Err-clause-runs : goal.returns-in-Err-clause-runs
returns-in-Err-clause-runs g c = λ path store task gives. elim c.tell.ensures.memory [
  | inl wanting ↦ inr (refl, refl, refl, wanting.0, wanting.1)
  | inr other ↦ absurd (c.in-Err.ensures.none other path store task gives)
]

-- here the words ask for something
pub returns-in-Ok-clause-none : goal.returns-in-Ok-clause-none
returns-in-Ok-clause-none g c = λ none _.
    let read = c.in-Ok.options in
    absurd (none read.agreements.now read.store.now read.task c.in-Ok.ensures.given)

-- they don't ask for the help or the version, so neither was found
pub returns-in-Err-clause-none : goal.returns-in-Err-clause-none
returns-in-Err-clause-none g c = λ none other. c.tell.ensures.fault (λ is_help. other (c.in-Err.ensures.help is_help))

-- here the words ask for something
pub returns-in-Ok-clause-help : goal.returns-in-Ok-clause-help
returns-in-Ok-clause-help g c = λ none _.
    let read = c.in-Ok.options in
    absurd (none read.agreements.now read.store.now read.task c.in-Ok.ensures.given)

pub returns-in-Err-clause-help : goal.returns-in-Err-clause-help
returns-in-Err-clause-help g c = λ none other. c.tell.ensures.helps other
