use Rattle.std.proofs.Common.{ℕ, ◌<◌, length, ℤ, pos, negsuc, ◌≤ℤ◌, ◌<ℤ◌}
use Rattle.problem.specs.Limits.{Model}
use Rattle.problem.specs.Model.{model}
use Rattle.table.specs.Row.{row_model}
use Rattle.table.specs.Rows.{RowModel}
use Rattle.overlap_rule.specs.Search.{Clear}
use Rattle.overlap_rule.proofs.search.between.Given as goal

-- the second row's parts so far are clear of this part at this distance
abbrev pub invariant-loop-second : goal.invariant-loop-second
invariant-loop-second l = (y : ℕ) → y < l.second → Clear (model l.problem) l.i l.j (row_model l.a) (row_model l.b) l.distance l.first y

-- the first row's parts so far are clear of the second row at this distance
abbrev pub invariant-loop-first : goal.invariant-loop-first
invariant-loop-first l =
    (x : ℕ) → x < l.first → (y : ℕ) → y < length l.b.parts.now → Clear (model l.problem) l.i l.j (row_model l.a) (row_model l.b) l.distance x y

-- the rows are clear of each other at the distances so far, each of which is -3 or more
pub record ClearSoFar (p : Model) (i j : ℕ) (a b : RowModel) (distance : ℤ) : Type 0 where
  pub low : negsuc 2 ≤ℤ distance
  pub high : distance ≤ℤ pos 4
  pub clear : (d : ℤ) → negsuc 2 ≤ℤ d → d <ℤ distance → (x : ℕ) → x < length a.parts → (y : ℕ) → y < length b.parts → Clear p i j a b d x y

abbrev pub invariant-loop-distance : goal.invariant-loop-distance
invariant-loop-distance l = ClearSoFar (model l.problem) l.i l.j (row_model l.a) (row_model l.b) l.distance
