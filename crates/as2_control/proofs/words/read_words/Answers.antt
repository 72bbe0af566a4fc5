use Rattle.std.proofs.Common.{◌∷◌, [], ◌++◌, map, string_bytes, sym, ◌∙◌, ap, subst}
use Rattle.std.proofs.lemmas.List.{map_push}
use Rattle.as2_control.proofs.Lengths.{shorter_behind}
use Rattle.as2_control.proofs.Texts.{WordsLeft, word_left, word_made, words_made}
use Rattle.as2_control.proofs.words.read_words.Goals as goal

pub made_word-requires : goal.made_word-requires
made_word-requires c = word_left c.args.text.now _ c.loop-word.rest.now c.in-Some.word.now c.in-Some.behind.now c.loop-word.invariant c.in-Some.ensures.found

pub loop-word-smaller : goal.loop-word-smaller
loop-word-smaller c = shorter_behind c.loop-word.rest.now c.in-Some.word.now c.in-Some.behind.now c.in-Some.ensures.found

pub loop-word-preserved : goal.loop-word-preserved
loop-word-preserved c = subst (λ made. WordsLeft c.args.text.now made c.in-Some.behind.now)
    (ap (λ word. map string_bytes c.loop-word.words.items ++ word ∷ []) (sym c.in_ok-made_word.ensures)
    ∙ (sym (map_push string_bytes c.loop-word.words.items c.in_ok-made_word.field-0) ∙ ap (map string_bytes) (sym c.in_ok-push.ensures.items)))
    (word_made c.args.text.now (map string_bytes c.loop-word.words.items) c.loop-word.rest.now c.in-Some.word.now c.in-Some.behind.now
    c.loop-word.invariant c.in-Some.ensures.found)

pub returns : goal.returns
returns c = words_made c.args.text.now _ c.loop-word.rest.now c.loop-word.invariant c.in_default.ensures.none
