use Rattle.std.specs.Prelude.{◌≡◌, ℕ, ◌<◌, Some, Contains}
use Rattle.problem.specs.declared.dependency.Dependency.{Dependency}
use Rattle.problem.specs.Limits.{Model}
use Rattle.problem.specs.Lookup.{task_at}
use Rattle.table.specs.Rows.{RowModel, Rows, row_at}
use Rattle.table.specs.Shape.{Shaped}
use Rattle.rules.specs.Lawful.{Lawful}
use Rattle.task_rules.specs.Wanted.{Allocated, LongEnough, Unsplit, Released, OnTime}
use Rattle.window_rule.specs.Windows.{InWindows}
use Rattle.dependency_rule.specs.Dependencies.{DependencyKept}
use Rattle.overlap_rule.specs.Overlaps.{OverlapKept}
use Rattle.published.specs.Book.{published_book}

-- the eight scheduling conditions of a table, in every frame
pub record Conditions (p : Model) (rows : Rows) : Type 0 where
  -- each row is on a processor on which its task has a duration
  pub allocation : (t : ℕ) (row : RowModel) → row_at rows t ≡ Some row → Allocated (task_at p t) row
  -- each row is at least as long as its task's duration there
  pub duration : (t : ℕ) (row : RowModel) → row_at rows t ≡ Some row → LongEnough (task_at p t) row
  -- the row of a task marked whole has one part
  pub whole : (t : ℕ) (row : RowModel) → row_at rows t ≡ Some row → Unsplit (task_at p t) row
  -- in every frame each part of a row lies inside one window of its task's partition on its processor
  pub window : (t : ℕ) (row : RowModel) → row_at rows t ≡ Some row → (n : ℕ) → InWindows p (task_at p t) row n
  -- each row starts at its task's release or later
  pub release : (t : ℕ) (row : RowModel) → row_at rows t ≡ Some row → Released (task_at p t) row
  -- each row ends at its task's deadline or earlier, if there is one
  pub deadline : (t : ℕ) (row : RowModel) → row_at rows t ≡ Some row → OnTime (task_at p t) row
  -- in every frame the data of each dependency has arrived when its destination starts
  pub dependency : (x : Dependency) → Contains p.dependencies x → (n : ℕ) → DependencyKept p x rows n
  -- in every frame two tasks on one processor share no tick, unless they are excluded from running both
  pub overlap : (i j : ℕ) → i < j → (n : ℕ) → OverlapKept p i j rows n

-- the published book's lawful tables are exactly the tables of lawful shape that meet the eight conditions
pub record LawfulExactly (p : Model) : Type 0 where
  pub meets : (rows : Rows) → Lawful published_book p rows → Shaped p rows × Conditions p rows
  pub suffices : (rows : Rows) → Shaped p rows → Conditions p rows → Lawful published_book p rows
