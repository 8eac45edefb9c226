use Rattle.std.proofs.Common.{◌≡◌, ◌+◌, ◌∙◌, inl, inr, arith}
use Rattle.std.proofs.lemmas.Int.{ints}
use Rattle.std.proofs.lemmas.Bool.{both_ways}
use Rattle.problem.specs.Model.{model}
use Rattle.overlap_rule.proofs.Distances.{excludes, not_behind}
use Rattle.overlap_rule.proofs.exclusions.never_both.Goals as goal
use Rattle.overlap_rule.proofs.exclusions.never_both.Goals.{then-distance-le0, else-distance-le0}

pub returns-then-distance-ge0 : goal.returns-then-distance-ge0
returns-then-distance-ge0 c n m e =
    let p = model c.args.problem.now in
    let i = c.args.first in let j = c.args.second in
    let frames = c.from-frames.result in
    let far = c.unsigned_abs.ensures.value in
    let up : m ≡ n + frames = let t = c.if-distance-ge0.true in grind (arith, ints, c.from-frames.ensures) in
    let ahead = excludes p i j n m frames up in (
      λ k. inl (ahead.0 (c.listed-then-distance-ge0.ensures.0 k)),
      λ x. elim x [
        | inl h ↦ c.listed-then-distance-ge0.ensures.1 (ahead.1 h)
        | inr h ↦ elim c.if-distance-le0.branch [
          | then-distance-le0 w ↦
              let back : n ≡ m + frames = let t = w.if-distance-le0.true in grind (arith, ints, c.from-frames.ensures) in
              absurd (both_ways _ c.if-listed.false (w.value-is ∙ w.listed.ensures.1 ((excludes p j i m n frames back).1 h)))
          | else-distance-le0 w ↦ absurd (not_behind c.args.distance n m h.0 c.ranges.distance e w.if-distance-le0.false h.2)
        ]
      ],
    )
