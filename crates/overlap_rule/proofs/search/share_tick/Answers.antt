use Rattle.std.proofs.Common.{◌≡◌, pos, ◌+ℤ◌, ◌*ℤ◌, ◌<ℤ◌, ◌↔◌, w8, SFits, arith}
use Rattle.std.specs.Int.{int_max, int_min}
use Rattle.std.proofs.lemmas.Int.{ints, clamps, to_z-of_z}
use Rattle.overlap_rule.specs.Search.{ShareTick}
use Rattle.overlap_rule.proofs.Distances.{shared}
use Rattle.overlap_rule.proofs.search.share_tick.Goals as goal

pub returns : goal.returns
returns c n m e =
    let frame = c.args.frame in let a = c.args.first in let b = c.args.second in let d = c.args.distance in
    let fits : SFits w8 d = c.ranges.distance in
    let shift : c.ticks_of-shift.result ≡ (d *ℤ pos frame) = simp to_z-of_z at c.ticks_of-shift.ensures.value in
    let few = c.ticks_of-shift.ensures.bound in
    let begin : c.max-begin.result ≡ int_max (pos a.begin) (pos b.begin +ℤ (d *ℤ pos frame)) = omega (arith, ints, clamps, c.max-begin.ensures.value, c.from.ensures, c.from-2.ensures) in
    let end : c.min-end.result ≡ int_min (pos a.end) (pos b.end +ℤ (d *ℤ pos frame)) = omega (arith, ints, clamps, c.min-end.ensures.value, c.from-3.ensures, c.from-4.ensures) in
    let same : (c.max-begin.result <ℤ c.min-end.result) ↔ ShareTick frame a n b m = rw (begin, end) (shared frame a b d n m e) in
    (λ t. same.0 (grind (arith, ints)), λ s. let h = same.1 s in grind (arith, ints))
