use Rattle.std.proofs.Common.{rules, arith, sym, ◌∙◌}
use Rattle.as2_control.proofs.Lengths.{shorter_behind}
use Rattle.as2_control.proofs.Texts.{misspelt_word, no_word_more, no_words_yet, one_word_more, too_many_words}
use Rattle.as2_control.proofs.words.is_words.Goals as goal
use Rattle.as2_control.proofs.words.is_words.Goals.{then-count-eq-MOST_WORDS-via-then-count-eq-MOST_WORDS, then-count-eq-MOST_WORDS-via-else-count-eq-MOST_WORDS+then-is_err}

pub loop-word-init : goal.loop-word-init
loop-word-init c = no_words_yet c.args.text.now

pub returns-then-count-eq-MOST_WORDS-clause-no : goal.returns-then-count-eq-MOST_WORDS-clause-no
returns-then-count-eq-MOST_WORDS-clause-no c _ = elim c.then-count-eq-MOST_WORDS.branch [
  | then-count-eq-MOST_WORDS-via-then-count-eq-MOST_WORDS w ↦
      too_many_words c.args.text.now c.loop-word.count c.loop-word.rest.now c.in-Some.word.now c.in-Some.behind.now c.loop-word.invariant c.requires
      c.in-Some.ensures.found w.if-count-eq-MOST_WORDS.true
  | then-count-eq-MOST_WORDS-via-else-count-eq-MOST_WORDS+then-is_err w ↦
      misspelt_word c.args.text.now c.loop-word.count c.loop-word.rest.now c.in-Some.word.now c.in-Some.behind.now c.loop-word.invariant c.requires
      c.in-Some.ensures.found (search rules)
]

pub loop-word-smaller : goal.loop-word-smaller
loop-word-smaller c = shorter_behind c.loop-word.rest.now c.in-Some.word.now c.in-Some.behind.now c.in-Some.ensures.found

pub loop-word-preserved : goal.loop-word-preserved
loop-word-preserved c = one_word_more c.args.text.now c.loop-word.count c.loop-word.rest.now c.in-Some.word.now c.in-Some.behind.now
    c.loop-word.invariant c.in-Some.ensures.found (search rules) (omega (arith, c.if-count-eq-MOST_WORDS.false, c.loop-word.invariant.few))

pub returns-clause-no : goal.returns-clause-no
returns-clause-no c is = no_word_more c.args.text.now c.loop-word.count c.loop-word.rest.now c.loop-word.invariant c.requires c.in_default.ensures.none
    (sym c.is_empty.ensures ∙ is)
