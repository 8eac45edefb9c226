use Rattle.std.specs.Prelude.{◌≡◌, ℕ, ◌<◌, Some, None, Option}
use Rattle.problem.specs.Limits.{Model}
use Rattle.problem.specs.Lookup.{task_at}
use Rattle.problem.specs.Model.{model}
use Rattle.table.specs.declared.placed.Placed.{Placed}
use Rattle.table.specs.Row.{row_model}
use Rattle.table.specs.Rows.{Rows, row_at}

-- task `t` of the problem, with its row; that the row has lawful shape is in the type
pub record PlacedAs (p : Model) (rows : Rows) (t : ℕ) (x : Placed) : Type 0 where
  pub problem : model x.problem.now ≡ p
  pub number : t < p.dimensions.tasks
  pub task : x.task ≡ task_at p t
  pub row : row_at rows t ≡ Some (row_model x.row)

-- a task with its row, or nothing where it has none
abbrev pub PlacedAt : Model → Rows → ℕ → Option Placed → Type 0
PlacedAt p rows t None = row_at rows t ≡ None
PlacedAt p rows t (Some x) = PlacedAs p rows t x
