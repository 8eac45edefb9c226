use Rattle.std.specs.Prelude.{◌≡◌, ℕ, ◌+◌, ◌*◌, ◌<◌, ◌≤◌, List, length, Some, slice_index_or}
use Rattle.problem.specs.declared.dimensions.Dimensions.{Dimensions}
use Rattle.problem.specs.Limits.{Model, Within}
use Rattle.table.specs.declared.part.Part.{Part}
use Rattle.table.specs.Rows.{RowModel, Rows, row_at, no_part, start_of, end_of}

-- each part begins below its end, and none begins before the previous one ends
pub record InTurn (parts : List Part) : Type 0 where
  pub spans : (k : ℕ) → k < length parts → (slice_index_or parts k no_part).begin < (slice_index_or parts k no_part).end
  pub ordered : (k : ℕ) → k + 1 < length parts → (slice_index_or parts k no_part).end ≤ (slice_index_or parts (k + 1) no_part).begin

-- lawful shape: the processor exists, there are 1 to 4 parts in turn, the first begins below three frames, and the last ends within a frame of that
pub record LawfulShape (d : Dimensions) (row : RowModel) : Type 0 where
  pub processor : row.processor < d.processors
  pub some : 1 ≤ length row.parts
  pub few : length row.parts ≤ 4
  pub turns : InTurn row.parts
  pub starts : start_of row < 3 * d.frame
  pub ends : end_of row ≤ start_of row + d.frame

-- a table of lawful shape: its problem is within the limits, each task has a place for a row, and every row has lawful shape
pub record Shaped (p : Model) (rows : Rows) : Type 0 where
  pub problem : Within p
  pub places : length rows ≡ p.dimensions.tasks
  pub shapes : (t : ℕ) (row : RowModel) → row_at rows t ≡ Some row → LawfulShape p.dimensions row
