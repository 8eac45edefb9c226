use Rattle.std.proofs.Common.{rules, ◌≡◌, ◌+◌, ◌-◌, ◌≤◌, ◌∙◌, ap, length, add-zero, arith}
use Rattle.words.proofs.Encoded.{word_of_part}
use Rattle.words.specs.Words.{word_at}
use Rattle.words.proofs.read.Goals as goal

pub returns : goal.returns
unfolding word_at
returns c =
    let bytes = c.args.bytes.now in let at = c.args.at in
    let rest = c.in_ok-get.field-0.now in
    let part = c.in_ok-get.ensures.lookup.0 in
    let chunk = c.in_ok-word.ensures.cases in
    let enough : at + 4 ≤ length bytes = omega (arith, part.3, chunk.enough) in
    let word : c.from_le_bytes.result ≡ word_at bytes at =
    c.from_le_bytes.ensures
    ∙ ap (λ xs. word_at xs 0) chunk.same
    ∙ word_of_part 4 0 0 rest (omega arith)
    ∙ ap (λ xs. word_at xs 0) part.2
    ∙ word_of_part (length bytes - at) at 0 bytes (omega (arith, enough))
    ∙ ap (word_at bytes) (add-zero at) in
    search rules
