use Rattle.std.specs.Prelude.{◌≡◌, ℕ, ◌≢◌}
use Rattle.rules.specs.EachTask.{of_each_task}
use Rattle.rules.specs.Meaning.{Meaning}
use Rattle.table.specs.Rows.{RowModel}

-- the row is not on the spare processor
abbrev pub Elsewhere : ℕ → RowModel → Type 0
Elsewhere spare row = row.processor ≢ spare

-- rule 100: a place for each task, kept if the task's row, if it has one, is elsewhere
abbrev pub spare_rule : ℕ → Meaning
spare_rule spare = of_each_task 100 (λ _ _ row _. Elsewhere spare row)
