use Rattle.std.proofs.Common.{sym, ap, ◌∙◌}
use Rattle.as2_mic.specs.Algs.{AllDigests, alg_named}
use Rattle.as2_mic.proofs.Cuts.{first_found, first_on, first_whole}
use Rattle.as2_mic.proofs.alg.Alg.first_of.Goals as goal

pub returns-in-Some-named : goal.returns-in-Some-named
returns-in-Some-named c =
    sym (first_found AllDigests c.loop-name.rest.now c.in-Some.name.now c.in-Some.names.now c.in-Some-named.alg c.in-Some.ensures.cut
    (ap (alg_named AllDigests) (sym c.without_blanks.ensures) ∙ sym c.named.ensures ∙ c.in-Some-named.is)) ∙ c.loop-name.invariant

pub loop-name-preserved : goal.loop-name-preserved
loop-name-preserved c = first_on AllDigests c.loop-name.rest.now c.in-Some.name.now c.in-Some.names.now c.in-Some.ensures.cut
    (ap (alg_named AllDigests) (sym c.without_blanks.ensures) ∙ sym c.named.ensures ∙ c.in_default-named.is) ∙ c.loop-name.invariant

pub returns : goal.returns
returns c = c.named-2.ensures ∙ ap (alg_named AllDigests) c.without_blanks-2.ensures
    ∙ sym (first_whole AllDigests c.loop-name.rest.now c.in_default.ensures.whole) ∙ c.loop-name.invariant
