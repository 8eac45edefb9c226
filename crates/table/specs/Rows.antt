use Rattle.std.specs.Prelude.{◌≡◌, ℕ, ◌-◌, List, length, replicate, None, Option, slice_index_or}
use Rattle.problem.specs.Limits.{Model}
use Rattle.table.specs.declared.part.Part.{Part}

-- what a row says: its processor, and its parts in their order
pub record RowModel : Type 0 where
  pub processor : ℕ
  pub parts : List Part

-- what a table says: for each task its row, or none
abbrev pub Rows : Type 0
Rows = List (Option RowModel)

-- the row of a task, if it has one
abbrev pub row_at : Rows → ℕ → Option RowModel
row_at rows t = slice_index_or rows t None

-- the table in which no task has a row
abbrev pub no_rows : Model → Rows
no_rows p = replicate p.dimensions.tasks None

-- two tables give the task the same row, or both none
abbrev pub Agree : Rows → Rows → ℕ → Type 0
Agree a b t = row_at a t ≡ row_at b t

-- stands for no part where a row has none
abbrev pub no_part : Part
no_part = record { begin = 0; end = 0 }

-- when a row starts: its first begin
abbrev pub start_of : RowModel → ℕ
start_of row = (slice_index_or row.parts 0 no_part).begin

-- when a row ends: its last end
abbrev pub end_of : RowModel → ℕ
end_of row = (slice_index_or row.parts (length row.parts - 1) no_part).end
