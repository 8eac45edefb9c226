-- How a place of a rule with a place for each task is judged, where the rule's own test may speak of the frame.
use Rattle.std.proofs.Common.{◌≡◌, ◌<◌, ℕ, None, Some, sym, subst}
use Rattle.problem.specs.declared.task.Task.{Task}
use Rattle.problem.specs.Limits.{Model}
use Rattle.problem.specs.Lookup.{task_at}
use Rattle.table.specs.declared.placed.Placed.{Placed}
use Rattle.table.specs.Placed.{PlacedAs}
use Rattle.table.specs.Row.{row_model}
use Rattle.table.specs.Rows.{RowModel, Rows, row_at}
use Rattle.rules.specs.EachTask.{of_each_task}
use Rattle.rules.specs.Judged.{Keeps, Breaks}
pub use Rattle.rules.specs.Laws.{each_absence, each_reach}

module _ (rule : ℕ) (Wanted : Model → Task → RowModel → ℕ → Type 0) (p : Model) (rows : Rows) (t : ℕ) where
  -- a place without a row is kept
  pub each_absent : row_at rows t ≡ None → Keeps (of_each_task rule Wanted) p rows t
  each_absent none n h row e = absurd (cc)

  -- a row that is wanted in every frame keeps its place
  pub each_kept_at : (x : Placed) → x.task ≡ task_at p t → row_at rows t ≡ Some (row_model x.row) → ((n : ℕ) → Wanted p x.task (row_model x.row) n) → Keeps (of_each_task rule Wanted) p rows t
  each_kept_at x task at wanted n h row e =
      let one : row_model x.row ≡ row = cc in
      subst (λ (r : RowModel). Wanted p (task_at p t) r n) one (subst (λ (it : Task). Wanted p it (row_model x.row) n) task (wanted n))

  -- a row that is not wanted in some frame breaks it
  pub each_broken_at : (x : Placed) → t < p.dimensions.tasks → x.task ≡ task_at p t → row_at rows t ≡ Some (row_model x.row) → (n : ℕ) → ¬ (Wanted p x.task (row_model x.row) n) → Breaks (of_each_task rule Wanted) p rows t
  each_broken_at x number task at n unwanted =
      (n, λ kept. unwanted (subst (λ (it : Task). Wanted p it (row_model x.row) n) (sym task) (kept number (row_model x.row) at)))

  -- the same of a row that a table's call has given
  pub each_kept : (x : Placed) → PlacedAs p rows t x → ((n : ℕ) → Wanted p x.task (row_model x.row) n) → Keeps (of_each_task rule Wanted) p rows t
  each_kept x at = each_kept_at x at.task at.row

  pub each_broken : (x : Placed) → PlacedAs p rows t x → (n : ℕ) → ¬ (Wanted p x.task (row_model x.row) n) → Breaks (of_each_task rule Wanted) p rows t
  each_broken x at = each_broken_at x at.number at.task at.row
