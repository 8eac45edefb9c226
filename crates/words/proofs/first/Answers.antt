use Rattle.std.proofs.Common.{rules, ◌≡◌, ◌*◌, ◌≤◌, arith, length}
use Rattle.std.proofs.lemmas.List.FromFn.{fill_by_all}
use Rattle.words.specs.Words.{word_at, words_in}
use Rattle.words.proofs.first.Goals as goal

pub returns : goal.returns
returns g c =
    let bytes = c.args.bytes.now in let so-far = c.loop-place.invariant in
    let all : c.loop-place.word-items ≡ words_in g.row.N bytes =
    fill_by_all (λ k. word_at bytes (4 * k)) c.loop-place.word-items g.row.N 0 so-far.0 (λ k lt. so-far.2 k (omega (arith, c.loop-place-test.false))) in
    let enough : 4 * g.row.N ≤ length bytes = omega (arith, so-far.1, c.loop-place-test.false) in
    search rules
