use Rattle.std.proofs.Common.{◌≡◌, ℕ, ◌<◌, length, ℤ, w64, to_z, of_z, arith, below_more}
use Rattle.std.proofs.lemmas.Int.{ints}
use Rattle.std.proofs.lemmas.Bool.{both_ways}
use Rattle.std.proofs.lemmas.Bool.Decides.{not_from_Decides}
use Rattle.problem.specs.Model.{model}
use Rattle.table.specs.Row.{row_model}
use Rattle.overlap_rule.specs.Search.{Clear}
use Rattle.overlap_rule.proofs.Apart.{below_last, below_more_ℤ, clear_apart, earlier_clear, next_distance, test_gt, test_le}
use Rattle.overlap_rule.proofs.search.between.Goals as goal
use Rattle.overlap_rule.proofs.search.between.Goals.{else-share_tick-via-then-share_tick+else-not-never_both, else-share_tick-via-else-share_tick}

pub loop-second-preserved : goal.loop-second-preserved
loop-second-preserved c =
    below_more _ _ c.loop-second.invariant
    (λ n m e. elim c.else-share_tick.branch [
      | else-share_tick-via-then-share_tick+else-not-never_both w ↦ λ _. (w.never_both.ensures n m e).0 w.if-not-never_both.false
      | else-share_tick-via-else-share_tick w ↦ λ t. absurd (both_ways _ w.if-share_tick.false ((c.share_tick.ensures n m e).1 t))
    ])

pub loop-first-preserved : goal.loop-first-preserved
loop-first-preserved c = below_more _ _ c.loop-first.invariant (λ y h. c.loop-second.invariant y (omega arith))

pub loop-distance-preserved : goal.loop-distance-preserved
loop-distance-preserved c =
    let next = next_distance _ c.loop-distance.invariant.low (test_le _ _ c.loop-distance-test.true) in
    record {
      low = next.0;
      high = next.1;
      clear = below_more_ℤ (λ (d : ℤ). (x : ℕ) → x < length c.args.a.now.parts.now → (y : ℕ) → y < length c.args.b.now.parts.now →
          Clear (model c.args.problem.now) c.args.i c.args.j (row_model c.args.a.now) (row_model c.args.b.now) d x y)
          _ _ _ next.2 c.loop-distance.invariant.clear (λ x h. c.loop-first.invariant x (omega arith));
    }

pub returns-after-loop-distance : goal.returns-after-loop-distance
returns-after-loop-distance c =
    clear_apart (model c.args.problem.now) c.args.i c.args.j (row_model c.args.a.now) (row_model c.args.b.now) c.requires.a c.requires.b
    (λ d low high x y hx hy. c.loop-distance.invariant.clear d low (below_last d _ high (test_gt _ _ c.loop-distance-test.false)) x hx y hy)

pub returns-then-not-never_both : goal.returns-then-not-never_both
returns-then-not-never_both c =
    let wide : to_z w64 (of_z w64 c.from.result) ≡ c.from.result = omega (arith, ints) in
    rw (wide, c.from.ensures) (record {
      low = c.loop-distance.invariant.low;
      high = test_le _ _ c.loop-distance-test.true;
      first = c.loop-first-test.true;
      second = c.loop-second-test.true;
      shared = λ n m e. (c.share_tick.ensures n m e).0 c.if-share_tick.true;
      unexcused = λ n m e. not_from_Decides c.never_both.result (c.never_both.ensures n m e) c.if-not-never_both.true;
      before = earlier_clear (model c.args.problem.now) c.args.i c.args.j (row_model c.args.a.now) (row_model c.args.b.now) _ c.loop-distance.invariant.clear c.loop-first.invariant c.loop-second.invariant;
    })
