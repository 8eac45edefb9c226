use Rattle.std.proofs.Common.{◌∙◌, ap, sym, take, ◌++◌, [], ◌∷◌, slice_index, append-nil}
use Rattle.std.proofs.lemmas.List.{take_more}
use Rattle.std.proofs.lemmas.Grind.{flat_map-append}
use Rattle.words.specs.Words.{encoded, word_bytes}
use Rattle.words.proofs.encode.Goals as goal

pub loop-word-preserved : goal.loop-word-preserved
unfolding word_bytes
loop-word-preserved c =
    let words = c.args.words.now in let i = c.loop-word.word-index in
    let before = take i words in let word = slice_index words i in
    c.in_ok-extend_from_slice.ensures.items
    ∙ ap (λ xs. xs ++ c.to_le_bytes.result) c.loop-word.invariant
    ∙ ap (λ xs. encoded before ++ xs) (c.to_le_bytes.ensures ∙ sym (append-nil (word_bytes word)))
    ∙ sym (flat_map-append word_bytes before (word ∷ []))
    ∙ ap encoded (sym (take_more words i 0 c.loop-word-test.true))
