-- Where the parts of a row of lawful shape lie: from its start on, and within a frame of that.
use Rattle.std.proofs.Common.{◌≡◌, ℕ, zero, suc, ◌+◌, ◌-◌, ◌<◌, ◌≤◌, length, get_or, subst, add-one, arith}
use Rattle.problem.specs.declared.dimensions.Dimensions.{Dimensions}
use Rattle.table.specs.Rows.{RowModel, no_part, start_of, end_of}
use Rattle.table.specs.Shape.{LawfulShape}

module _ (d : Dimensions) (row : RowModel) (ok : LawfulShape d row) where
  -- no part begins before the row starts
  pub begins_after : (k : ℕ) → k < length row.parts → start_of row ≤ (get_or row.parts k no_part).begin
  begins_after zero h = omega arith
  begins_after (suc k) h =
      let o : (get_or row.parts k no_part).end ≤ (get_or row.parts (suc k) no_part).begin = rw add-one at (ok.turns.ordered k (omega arith)) in
      omega (arith, begins_after k (omega arith), ok.turns.spans k (omega arith))

  ends_before_at : (more k : ℕ) → k + more + 1 ≡ length row.parts → (get_or row.parts k no_part).end ≤ end_of row
  ends_before_at zero k e =
      let same : k ≡ length row.parts - 1 = omega arith in
      subst (λ (n : ℕ). (get_or row.parts k no_part).end ≤ (get_or row.parts n no_part).end) same (omega arith)
  ends_before_at (suc more) k e =
      omega (arith, ends_before_at more (k + 1) (omega arith), ok.turns.ordered k (omega arith), ok.turns.spans (k + 1) (omega arith))

  -- no part ends after the row, so none ends more than a frame after its start
  pub ends_before : (k : ℕ) → k < length row.parts → (get_or row.parts k no_part).end ≤ start_of row + d.frame
  ends_before k h = omega (arith, ends_before_at (length row.parts - k - 1) k (omega arith), ok.ends)
