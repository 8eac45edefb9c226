use Rattle.std.proofs.Common.{◌≡◌, pos, ◌*ℤ◌, w64, SFits, to_z, of_z, arith}
use Rattle.std.proofs.lemmas.Int.{ints, to_z-of_z}
use Rattle.overlap_rule.proofs.Distances.{short}
use Rattle.overlap_rule.proofs.search.ticks_of.Goals as goal

pub returns : goal.returns
returns c =
    let d = c.args.distance in let frame = c.args.frame in
    let few = short d frame c.ranges.distance (omega arith) in
    let by : to_z w64 (of_z w64 c.from.result) ≡ d = omega (arith, ints, c.from.ensures) in
    let of : to_z w64 (of_z w64 c.from-2.result) ≡ pos frame = omega (arith, ints, c.from-2.ensures) in
    let fits : SFits w64 (d *ℤ pos frame) = omega (arith, ints, few) in
    record { value = rw (by, of) (to_z-of_z w64 _ fits); bound = rw (by, of) (rw (to_z-of_z w64 _ fits) few) }
