use Rattle.std.proofs.Common.{◌≡◌, ◌∙◌, Some, Ok, true, sym, ap, subst}
use Rattle.as2_exchange.specs.Readings.{value_of}
use Rattle.as2_exchange.specs.State.{received_as}
use Rattle.as2_exchange.specs.Lines.{refusal}
use Rattle.as2_exchange.specs.declared.answer.Line.TheVariants.{IdUsedBefore}
use Rattle.as2_exchange.specs.declared.inbox.InEntry.{InEntry}
use Rattle.as2_exchange.specs.declared.inbox.Posted.{Posted}
use Rattle.as2_posts.specs.Answers.{has_kept_mic}
use Rattle.as2_station.proofs.Clashing.{where_ok}
use Rattle.as2_station.proofs.Doing.{after_read, passed_on, unread}
use Rattle.as2_station.proofs.recording.record.Goals as goal

pub returns-in-Some-clause-taken : goal.returns-in-Some-clause-taken
unfolding value_of
returns-in-Some-clause-taken g c =
    after_read _ _ _ _ _ _ _ _ _ _ _
    (λ s known found. sym (rw c.value.ensures at found) ∙ c.in-Some.is) c.in_ok-found.ensures.found c.record_again.ensures.taken

pub returns-in-None-clause-taken : goal.returns-in-None-clause-taken
unfolding value_of
returns-in-None-clause-taken g c =
    after_read _ _ _ _ _ _ _ _ _ _ _
    (λ s known found. sym (rw c.value.ensures at found) ∙ c.in-None.is) c.in_ok-found.ensures.found c.record_first.ensures.taken

pub returns-in_err-found-clause-taken : goal.returns-in_err-found-clause-taken
returns-in_err-found-clause-taken g c =
    passed_on _ _ _ _ _ _ _ _ c.from_residual.ensures.0 c.from_residual.ensures.1
    (unread _ _ _ _ _ _ _ _ c.in_err-found.ensures.found c.in_err-found.ensures.fault)

pub returns-in-Some-clause-whole : goal.returns-in-Some-clause-whole
unfolding value_of
returns-in-Some-clause-whole g c = λ clean. where_ok c.record_again.result _ (λ a is conflict p reads s rests e there.
    let fits = c.in_ok-found.ensures.found.answer (c.record_again.ensures.taken.clean clean) s rests in
    let entry : received_as s c.args.posted ≡ Some c.in-Some.entry = sym (rw c.value.ensures at fits) ∙ c.in-Some.is in
    let own : c.args.posted ≡ p = cc in
    let same : c.in-Some.entry ≡ e = (let both = sym entry ∙ subst (λ (q : Posted). received_as s q ≡ Some e) (sym own) there in cc) in
    let refuses : c.record_again.result ≡ Ok (refusal IdUsedBefore) = is ∙ (let whose : a ≡ refusal IdUsedBefore = cc in ap Ok whose) in
    subst (λ (e : InEntry). has_kept_mic e.posted ≡ true) same (c.record_again.ensures.whole refuses))

pub returns-in-None-clause-whole : goal.returns-in-None-clause-whole
returns-in-None-clause-whole g c =
    λ clean. where_ok c.record_first.result _
    (λ a is conflict. absurd (c.record_first.ensures.own (is ∙ (let whose : a ≡ refusal IdUsedBefore = cc in ap Ok whose))))
