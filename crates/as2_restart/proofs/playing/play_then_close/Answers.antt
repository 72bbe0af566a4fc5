use Rattle.std.proofs.Common.{inl, inr, refl}
use Rattle.std.proofs.lemmas.Bool.{and_from}
use Rattle.sqlite_disk.specs.Modelled.{start_of}
use Rattle.sqlite.specs.Files.{over_files}
use Rattle.sqlite.proofs.Shield.{ends_well}
use Rattle.as2_restart.proofs.Closing.{of_closed, taken_shield}
use Rattle.as2_restart.proofs.playing.play_then_close.Goals as goal

pub returns-clause-played : goal.returns-clause-played
returns-clause-played g c = (c.play.new.self, c.in_ok-answers.ensures.each)

pub returns-clause-closed : goal.returns-clause-closed
returns-clause-closed g c =
    let agreed = c.args.agreements.now in
    let answers = c.in_ok-answers.answers.items in
    rw (c.ok-files.ensures.value) (of_closed (λ files was closed shield shielded s rests.
    let last = shield (taken_shield over_files agreed c.args.events.items answers c.args.station c.play.new.self c.in_ok-answers.ensures.each shielded) in
    elim (ends_well (start_of g.S.Start) (λ f. g.C.Calls.history f.calls) (λ _. refl) (λ _. refl) last.0 files.log files.db last.1 last.2) [
      | inl honest ↦
          let clean = and_from _ _ honest.0 honest.1 in
          let played = c.in_ok-answers.ensures.played (was clean) s rests in
          inl (record { state = played.end; run = played.run; by_history = played.by_history; closed = closed clean played.end played.rests })
      | inr collided ↦ inr collided
    ]) c.shut.result c.shut.ensures.clean c.shut.ensures.closed c.shut.ensures.shield)
