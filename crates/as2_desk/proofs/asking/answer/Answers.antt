use Rattle.std.proofs.Common.{◌≡◌, ◌∙◌, Some, sym, subst, ap}
use Rattle.as2_views.specs.Texts.{fetch}
use Rattle.as2_exchange.specs.declared.answer.Answer.TheVariants.{Ticked}
use Rattle.as2_exchange.specs.declared.event.Event.TheVariants as event
use Rattle.as2_exchange.specs.Step.{step}
use Rattle.as2_station.specs.Said.{said_to_resend, said_to_submit}
use Rattle.as2_station.specs.Theorem.{said_as}
use Rattle.as2_commands.specs.declared.tasks.Question.TheVariants as question
use Rattle.as2_desk.specs.Formats.{listing_in, outstanding_in, show_in}
use Rattle.as2_desk.proofs.Answering.{TellsFrom, ends_by, event_may, looked, looked_may, read, read_may, stepped, submission_refused}
use Rattle.as2_desk.specs.Questions.{QuestionInHand, EndsByEvent, FaultMayCome, IsToldOf, ToPrint, is_event, printed_text, refusal_to, told_as, told_by, told_by_step}
use Rattle.as2_desk.proofs.asking.answer.Goals as goal

pub returns-in-Submit-clause-tells : goal.returns-in-Submit-clause-tells
returns-in-Submit-clause-tells g c = λ clean.
    stepped c.args.terms.now.agreements.now c.args.terms.now.moment c.args.question (g.K.Records.shows c.args.station.now)
    (g.K.Records.shows c.submit.new.self) clean
    (event.Submit c.in-Submit.document.organization c.in-Submit.document.partner c.in-Submit.document.content c.args.terms.now.moment)
    (λ s. ap (λ (q : QuestionInHand). told_by c.args.terms.now.agreements.now c.args.terms.now.moment q s) c.in-Submit.is
    ∙ ap (λ (q : QuestionInHand). told_by_step q
    (step c.args.terms.now.agreements.now s
    (event.Submit c.in-Submit.document.organization c.in-Submit.document.partner c.in-Submit.document.content c.args.terms.now.moment))) (sym c.in-Submit.is))
    said_to_submit c.submit.result _ (c.submitted_told.ensures c.args.question) c.submit.ensures.taken

pub returns-in-Tick-clause-tells : goal.returns-in-Tick-clause-tells
returns-in-Tick-clause-tells g c = λ clean.
    stepped c.args.terms.now.agreements.now c.args.terms.now.moment c.args.question (g.K.Records.shows c.args.station.now)
    (g.K.Records.shows c.tick.new.self) clean (event.Tick c.args.terms.now.moment)
    (λ s. ap (λ (q : QuestionInHand). told_by c.args.terms.now.agreements.now c.args.terms.now.moment q s) c.in-Tick.is
    ∙ ap (λ (q : QuestionInHand). told_by_step q (step c.args.terms.now.agreements.now s (event.Tick c.args.terms.now.moment))) (sym c.in-Tick.is))
    Ticked c.tick.result _ (c.ticked_told.ensures c.args.question) c.tick.ensures.taken

pub returns-in-Resend-clause-tells : goal.returns-in-Resend-clause-tells
returns-in-Resend-clause-tells g c = λ clean.
    stepped c.args.terms.now.agreements.now c.args.terms.now.moment c.args.question (g.K.Records.shows c.args.station.now)
    (g.K.Records.shows c.resend.new.self) clean (event.Resend c.in-Resend.number c.args.terms.now.moment)
    (λ s. ap (λ (q : QuestionInHand). told_by c.args.terms.now.agreements.now c.args.terms.now.moment q s) c.in-Resend.is
    ∙ ap (λ (q : QuestionInHand). told_by_step q
    (step c.args.terms.now.agreements.now s (event.Resend c.in-Resend.number c.args.terms.now.moment))) (sym c.in-Resend.is))
    said_to_resend c.resend.result _
    (subst (λ (q : QuestionInHand). IsToldOf q (said_as said_to_resend c.resend.result) (told_as c.resent_told.result))
    (sym c.in-Resend.is) c.resent_told.ensures) c.resend.ensures.taken

pub returns-in-List-clause-tells : goal.returns-in-List-clause-tells
returns-in-List-clause-tells g c = λ clean.
    subst (λ (told : ToPrint). TellsFrom c.args.terms.now.agreements.now c.args.terms.now.moment c.args.question
    (g.K.Records.shows c.args.station.now) (g.K.Records.shows c.listing_in.new.station) told) (sym c.read_told.ensures)
    (read c.args.terms.now.agreements.now c.args.terms.now.moment c.args.question (g.K.Records.shows c.args.station.now)
    (g.K.Records.shows c.listing_in.new.station) clean printed_text (listing_in c.in-List.format c.in-List.filter)
    (λ s. ap (λ (q : QuestionInHand). told_by c.args.terms.now.agreements.now c.args.terms.now.moment q s) c.in-List.is)
    c.listing_in.result c.listing_in.ensures.listing c.listing_in.ensures.fault)

pub returns-in-Outstanding-clause-tells : goal.returns-in-Outstanding-clause-tells
returns-in-Outstanding-clause-tells g c = λ clean.
    subst (λ (told : ToPrint). TellsFrom c.args.terms.now.agreements.now c.args.terms.now.moment c.args.question
    (g.K.Records.shows c.args.station.now) (g.K.Records.shows c.outstanding_in.new.station) told) (sym c.read_told-in-Outstanding.ensures)
    (read c.args.terms.now.agreements.now c.args.terms.now.moment c.args.question (g.K.Records.shows c.args.station.now)
    (g.K.Records.shows c.outstanding_in.new.station) clean printed_text (λ s. outstanding_in c.in-Outstanding.format s c.args.terms.now.moment)
    (λ s. ap (λ (q : QuestionInHand). told_by c.args.terms.now.agreements.now c.args.terms.now.moment q s) c.in-Outstanding.is)
    c.outstanding_in.result c.outstanding_in.ensures.outstanding c.outstanding_in.ensures.fault)

pub returns-in-Show-clause-tells : goal.returns-in-Show-clause-tells
returns-in-Show-clause-tells g c = λ clean.
    subst (λ (told : ToPrint). TellsFrom c.args.terms.now.agreements.now c.args.terms.now.moment c.args.question
    (g.K.Records.shows c.args.station.now) (g.K.Records.shows c.show_in.new.station) told) (sym c.shown_told.ensures)
    (looked c.args.terms.now.agreements.now c.args.terms.now.moment c.args.question (g.K.Records.shows c.args.station.now)
    (g.K.Records.shows c.show_in.new.station) clean printed_text (λ s. show_in c.in-Show.format s c.in-Show.number)
    (λ s. ap (λ (q : QuestionInHand). told_by c.args.terms.now.agreements.now c.args.terms.now.moment q s) c.in-Show.is)
    c.show_in.result c.show_in.ensures.shown c.show_in.ensures.fault)

pub returns-in-Fetch-clause-tells : goal.returns-in-Fetch-clause-tells
returns-in-Fetch-clause-tells g c = λ clean.
    subst (λ (told : ToPrint). TellsFrom c.args.terms.now.agreements.now c.args.terms.now.moment c.args.question
    (g.K.Records.shows c.args.station.now) (g.K.Records.shows c.fetch.new.self) told) (sym c.fetched_told.ensures)
    (looked c.args.terms.now.agreements.now c.args.terms.now.moment c.args.question (g.K.Records.shows c.args.station.now)
    (g.K.Records.shows c.fetch.new.self) clean (λ v. v.items) (λ s. fetch s c.in-Fetch.number)
    (λ s. ap (λ (q : QuestionInHand). told_by c.args.terms.now.agreements.now c.args.terms.now.moment q s) c.in-Fetch.is)
    c.fetch.result c.fetch.ensures.fetched c.fetch.ensures.fault)

pub returns-in-Submit-clause-refused : goal.returns-in-Submit-clause-refused
returns-in-Submit-clause-refused g c = λ reason is.
    submission_refused c.args.terms.now.agreements.now c.args.question c.in-Submit.document.organization c.in-Submit.document.partner
    c.in-Submit.document.content c.args.terms.now.moment _ _ c.submit.result _ c.submit.ensures.refused (c.submitted_told.ensures c.args.question) reason
    (subst (λ (q : QuestionInHand). refusal_to c.args.terms.now.agreements.now q ≡ Some reason) c.in-Submit.is is)

pub returns-in-Submit-clause-fault : goal.returns-in-Submit-clause-fault
returns-in-Submit-clause-fault g c =
    event_may c.args.question (ap is_event c.in-Submit.is) said_to_submit c.submit.result _
    (c.submitted_told.ensures c.args.question) c.submit.ensures.taken.does.fault

pub returns-in-Tick-clause-fault : goal.returns-in-Tick-clause-fault
returns-in-Tick-clause-fault g c =
    event_may c.args.question (ap is_event c.in-Tick.is) Ticked c.tick.result _ (c.ticked_told.ensures c.args.question) c.tick.ensures.taken.does.fault

pub returns-in-Resend-clause-fault : goal.returns-in-Resend-clause-fault
returns-in-Resend-clause-fault g c = event_may c.args.question (ap is_event c.in-Resend.is) said_to_resend c.resend.result _
    (subst (λ (q : QuestionInHand). IsToldOf q (said_as said_to_resend c.resend.result) (told_as c.resent_told.result))
    (sym c.in-Resend.is) c.resent_told.ensures) c.resend.ensures.taken.does.fault

pub returns-in-List-clause-fault : goal.returns-in-List-clause-fault
returns-in-List-clause-fault g c =
    subst (FaultMayCome c.args.question) (sym c.read_told.ensures) (read_may c.args.question printed_text c.listing_in.result c.listing_in.ensures.fault)

pub returns-in-Outstanding-clause-fault : goal.returns-in-Outstanding-clause-fault
returns-in-Outstanding-clause-fault g c =
    subst (FaultMayCome c.args.question) (sym c.read_told-in-Outstanding.ensures)
    (read_may c.args.question printed_text c.outstanding_in.result c.outstanding_in.ensures.fault)

pub returns-in-Show-clause-fault : goal.returns-in-Show-clause-fault
returns-in-Show-clause-fault g c =
    subst (FaultMayCome c.args.question) (sym c.shown_told.ensures) (looked_may c.args.question printed_text c.show_in.result c.show_in.ensures.fault)

pub returns-in-Fetch-clause-fault : goal.returns-in-Fetch-clause-fault
returns-in-Fetch-clause-fault g c =
    subst (FaultMayCome c.args.question) (sym c.fetched_told.ensures) (looked_may c.args.question (λ v. v.items) c.fetch.result c.fetch.ensures.fault)

pub returns-in-Submit-clause-by_history : goal.returns-in-Submit-clause-by_history
returns-in-Submit-clause-by_history g c = λ clean s rests.
    let told = told_as c.submitted_told.result in
    let by = ends_by c.args.terms.now.agreements.now
    (event.Submit c.in-Submit.document.organization c.in-Submit.document.partner c.in-Submit.document.content c.args.terms.now.moment)
    said_to_submit (g.K.Records.shows c.args.station.now) (g.K.Records.shows c.submit.new.self) c.submit.result (question.Submit c.in-Submit.document) told
    c.submit.ensures.taken (c.submitted_told.ensures (question.Submit c.in-Submit.document)) clean s rests in
    (by.0, by.1, subst (λ (q : QuestionInHand). EndsByEvent c.args.terms.now.agreements.now c.args.terms.now.moment q s by.0 told) (sym c.in-Submit.is) by.2)

pub returns-in-Tick-clause-by_history : goal.returns-in-Tick-clause-by_history
returns-in-Tick-clause-by_history g c = λ clean s rests.
    let told = told_as c.ticked_told.result in
    let by = ends_by c.args.terms.now.agreements.now (event.Tick c.args.terms.now.moment) Ticked (g.K.Records.shows c.args.station.now)
    (g.K.Records.shows c.tick.new.self) c.tick.result question.Tick told c.tick.ensures.taken (c.ticked_told.ensures question.Tick) clean s rests in
    (by.0, by.1, subst (λ (q : QuestionInHand). EndsByEvent c.args.terms.now.agreements.now c.args.terms.now.moment q s by.0 told) (sym c.in-Tick.is) by.2)

pub returns-in-Resend-clause-by_history : goal.returns-in-Resend-clause-by_history
returns-in-Resend-clause-by_history g c = λ clean s rests.
    let told = told_as c.resent_told.result in
    let by = ends_by c.args.terms.now.agreements.now (event.Resend c.in-Resend.number c.args.terms.now.moment) said_to_resend
    (g.K.Records.shows c.args.station.now) (g.K.Records.shows c.resend.new.self) c.resend.result
    (question.Resend c.in-Resend.number) told c.resend.ensures.taken c.resent_told.ensures clean s rests in
    (by.0, by.1, subst (λ (q : QuestionInHand). EndsByEvent c.args.terms.now.agreements.now c.args.terms.now.moment q s by.0 told) (sym c.in-Resend.is) by.2)

pub returns-in-List-clause-by_history : goal.returns-in-List-clause-by_history
returns-in-List-clause-by_history g c =
    λ clean s rests. (
      s,
      c.listing_in.ensures.listing.same clean s rests,
      subst (λ (q : QuestionInHand). EndsByEvent c.args.terms.now.agreements.now c.args.terms.now.moment q s s (told_as c.read_told.result))
          (sym c.in-List.is) tt,
    )

pub returns-in-Outstanding-clause-by_history : goal.returns-in-Outstanding-clause-by_history
returns-in-Outstanding-clause-by_history g c =
    λ clean s rests. (
      s,
      c.outstanding_in.ensures.outstanding.same clean s rests,
      subst (λ (q : QuestionInHand). EndsByEvent c.args.terms.now.agreements.now c.args.terms.now.moment q s s
          (told_as c.read_told-in-Outstanding.result)) (sym c.in-Outstanding.is) tt,
    )

pub returns-in-Show-clause-by_history : goal.returns-in-Show-clause-by_history
returns-in-Show-clause-by_history g c =
    λ clean s rests. (
      s,
      c.show_in.ensures.shown.same clean s rests,
      subst (λ (q : QuestionInHand). EndsByEvent c.args.terms.now.agreements.now c.args.terms.now.moment q s s (told_as c.shown_told.result))
          (sym c.in-Show.is) tt,
    )

pub returns-in-Fetch-clause-by_history : goal.returns-in-Fetch-clause-by_history
returns-in-Fetch-clause-by_history g c =
    λ clean s rests. (
      s,
      c.fetch.ensures.fetched.same clean s rests,
      subst (λ (q : QuestionInHand). EndsByEvent c.args.terms.now.agreements.now c.args.terms.now.moment q s s (told_as c.fetched_told.result))
          (sym c.in-Fetch.is) tt,
    )
