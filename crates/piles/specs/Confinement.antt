use Rattle.std.specs.Prelude.{◌≡◌, ℕ, List, All}
use Rattle.problem.specs.Limits.{Model}
use Rattle.problem.specs.Lookup.{task_at}
use Rattle.rules.specs.Meaning.{Meaning}
use Rattle.piles.specs.Scoped.{scoped}

-- all these tasks are in the partition
abbrev pub AllIn : ℕ → Model → List ℕ → Type 0
AllIn partition p tasks = All (λ t. (task_at p t).partition ≡ partition) tasks

-- a place that names these tasks is inside the partition
abbrev pub Inside : ℕ → Model → ℕ → List ℕ → Type 0
Inside partition p k tasks = AllIn partition p tasks

-- every place is kept unless all its named tasks are in the partition; all else is the lower rule's
abbrev pub confined : ℕ → Meaning → Meaning
confined partition m = scoped (Inside partition) m
