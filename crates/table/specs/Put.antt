use Rattle.std.specs.Prelude.{◌≡◌, ℕ, ◌<◌, ◌≤◌, Some, None, Ok, Err, Result, slice_set}
use Rattle.problem.specs.Limits.{Model}
use Rattle.table.specs.declared.fault.PutFault.{PutFault}
use Rattle.table.specs.declared.fault.PutFault.TheVariants.{UnknownTask, UnlawfulShape}
use Rattle.table.specs.Rows.{RowModel, Rows}
use Rattle.table.specs.Shape.{LawfulShape}

-- a row may be put in: the task is the problem's, and the row has lawful shape
pub record MayPut (p : Model) (t : ℕ) (row : RowModel) : Type 0 where
  pub task : t < p.dimensions.tasks
  pub shape : LawfulShape p.dimensions row

-- the table with the row put in
abbrev pub put : Rows → ℕ → RowModel → Rows
put rows t row = slice_set rows t (Some row)

-- the table with the task's row taken out
abbrev pub without : Rows → ℕ → Rows
without rows t = slice_set rows t None

-- why a row may not be put in: the problem has no such task, or it has and the row has not lawful shape
abbrev pub Refused : Model → ℕ → RowModel → PutFault → Type 0
Refused p t row UnknownTask = p.dimensions.tasks ≤ t
Refused p t row UnlawfulShape = (t < p.dimensions.tasks) × ¬ (LawfulShape p.dimensions row)

-- what putting a row in answers and leaves: it is put in where it may be, and else refused and nothing changes
abbrev pub Puts : Model → Rows → ℕ → RowModel → Result (Unit {0}) PutFault → Rows → Type 0
Puts p before t row (Ok _) after = MayPut p t row × (after ≡ put before t row)
Puts p before t row (Err fault) after = Refused p t row fault × (after ≡ before)
