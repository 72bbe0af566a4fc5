use Rattle.clap.specs.Walk.{texts}
use Rattle.as2_agreement.specs.Agreements.{AgreedValues}
use Rattle.as2_commands.specs.Options.{Gives}
use Rattle.as2_commands.specs.declared.tasks.Task.{Task}
use Rattle.as2_loop.specs.Running.{GoesOnWith, LeadsFrom}
use Rattle.as2_loop.specs.declared.operating.Held.{Held}
use Rattle.as2_loop.specs.declared.operating.Spanned.TheVariants.{Elsewhere}
use Rattle.as2_loop.proofs.Stores.{began, gone_on, none_run, opened_before}
use Rattle.as2_loop.proofs.operating.run_station.Goals as goal
use Rattle.std.proofs.Common.{◌∙◌, subst}

pub returns-in_default-clause-goes_on : goal.returns-in_default-clause-goes_on
returns-in_default-clause-goes_on g c =
    none_run c.args.held (λ (h : Held). GoesOnWith g.O.OpenStores h c.args.host.now.stores c.args.host.now.stores Elsewhere)

pub returns-in-Some-clause-goes_on : goal.returns-in-Some-clause-goes_on
returns-in-Some-clause-goes_on g c =
    gone_on g.O.OpenStores c.args.held c.in-Some.held c.in-Operate.run'.first c.args.host.now.stores c.go_on-came.new.stores c.go_on-came.result
    c.told_of.result c.in-Some.is c.told_of.ensures c.go_on-came.ensures.basis c.go_on-came.ensures.leads

pub returns-clause-begins : goal.returns-clause-begins
returns-clause-begins g c none has =
    let agreed = c.in-Ok-agreed_text.agreed in
    let path = c.in-Ok.options.store.now in
    let shows = g.O.Opened.Records.shows in
    let new = c.begin-came.new.stores in
    let it = began agreed path
    (λ (A : AgreedValues). LeadsFrom g.O.OpenStores path A (shows c.in-Ok-opened.records).IsClean (shows c.in-Ok-opened.records).Rests new)
    c.in-Ok-agreed_text.ensures.text.1 c.held_of-begun.result c.begin-came.result c.told_of-2.result c.held_of-begun.ensures c.begin-came.ensures.basis
    c.begin-came.ensures.leads c.begin-came.ensures.none c.told_of-2.ensures has in
    record {
      clock = c.told_seconds.result;
      file = c.in-Ok.options.agreements.now;
      path = path;
      run = c.in-Operate.run';
      wanted = c.in-Operate.wanted;
      gives = subst (λ (t : Task). Gives (texts c.args.words.now) c.told_seconds.result c.in-Ok.options.agreements.now path t) c.in-Operate.is
          c.in-Ok.ensures.given;
      agreed = agreed.agreements;
      opens = c.in-Ok-agreed_text.ensures.agreed;
      leads = opened_before g.O.OpenStores shows path new agreed.agreements c.in-Operate.run'.first c.args.host.now.stores c.in-Ok-opened.records
          c.in-Ok-opened.ensures.clean c.in-Ok-opened.ensures.found it.0;
      counted = c.begin-came.ensures.counted ∙ c.in-Ok-opened.ensures.counted;
      behind = it.1;
    }
