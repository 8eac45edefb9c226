use Rattle.std.specs.Prelude.{ℕ, List}
use Rattle.problem.specs.Limits.{Model}
use Rattle.rules.specs.Meaning.{Meaning}

-- every place is kept unless the scope covers it; all else is the lower rule's
abbrev pub scoped : (Model → ℕ → List ℕ → Type 0) → Meaning → Meaning
scoped Covers m = record {
  count = m.count;
  label = m.label;
  tasks = m.tasks;
  kept = λ p rows k n. Covers p k (m.tasks p k) → m.kept p rows k n;
}
