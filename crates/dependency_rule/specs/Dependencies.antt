use Rattle.std.specs.Prelude.{◌≡◌, ℕ, ◌+◌, ◌*◌, ◌≤◌, if◌then◌else◌, [], ◌∷◌, length, Some, ◌==◌}
use Rattle.problem.specs.declared.dependency.Dependency.{Dependency}
use Rattle.problem.specs.Lookup.{dependency_at}
use Rattle.problem.specs.Limits.{Model}
use Rattle.table.specs.Rows.{RowModel, Rows, row_at, start_of, end_of}
use Rattle.rules.specs.Meaning.{Meaning}

-- the transfer time between two rows: none on one processor
abbrev pub transfer_time : Dependency → RowModel → RowModel → ℕ
transfer_time x from to = (if from.processor == to.processor then 0 else x.transfer)

-- in frame `n`, the end of the source's instance `n`, plus the transfer time, is at most the start of the destination's instance `n` + depth
abbrev pub InOrder : ℕ → Dependency → RowModel → RowModel → ℕ → Type 0
InOrder frame x from to n = end_of from + n * frame + transfer_time x from to ≤ start_of to + (n + x.depth) * frame

-- in frame `n` the rows of the dependency's tasks, if both have one, are in its order
abbrev pub DependencyKept : Model → Dependency → Rows → ℕ → Type 0
DependencyKept p x rows n =
    (from to : RowModel) → row_at rows x.source ≡ Some from → row_at rows x.destination ≡ Some to → InOrder p.dimensions.frame x from to n

-- rule 7: place `d` names the source and the destination of dependency `d`
abbrev pub dependency_rule : Meaning
dependency_rule = record {
  count = λ p. length p.dependencies;
  label = λ p d. record { rule = 7; place = d };
  tasks = λ p d. (dependency_at p d).source ∷ (dependency_at p d).destination ∷ [];
  kept = λ p rows d n. DependencyKept p (dependency_at p d) rows n;
}
