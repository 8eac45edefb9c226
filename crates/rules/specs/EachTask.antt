use Rattle.std.specs.Prelude.{◌≡◌, ℕ, List, [], ◌∷◌, Some}
use Rattle.problem.specs.declared.task.Task.{Task}
use Rattle.problem.specs.Limits.{Model}
use Rattle.problem.specs.Lookup.{task_at}
use Rattle.table.specs.Rows.{RowModel, row_at}
use Rattle.rules.specs.declared.label.Label.{Label}
use Rattle.rules.specs.Meaning.{Meaning, label_of, tasks_of}

-- a rule with a place for each task: place `t` names task `t`, and is kept in frame `n` if the task's row, if it has one, is as the rule wants it there
abbrev pub of_each_task : ℕ → (Model → Task → RowModel → ℕ → Type 0) → Meaning
of_each_task rule Wanted = record {
  count = λ p. p.dimensions.tasks;
  label = λ p t. record { rule = rule; place = t };
  tasks = λ p t. t ∷ t ∷ [];
  kept = λ p rows t n. (row : RowModel) → row_at rows t ≡ Some row → Wanted p (task_at p t) row n;
}

-- the labels of such a rule
abbrev pub labelled : ℕ → Model → ℕ → Label
labelled rule p t = label_of (of_each_task rule (λ _ _ _ _. Unit {0})) p t

-- the tasks that the places of such a rule name
abbrev pub named : Model → ℕ → List ℕ
named p t = tasks_of (of_each_task 0 (λ _ _ _ _. Unit {0})) p t
