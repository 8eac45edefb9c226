use Rattle.std.specs.Prelude.{◌≡◌, ℕ, ◌<◌, if◌then◌else◌, List, [], ◌∷◌, None, nat_lt, Contains}
use Rattle.problem.specs.Limits.{Model}
use Rattle.table.specs.Rows.{Rows, row_at, Agree}
use Rattle.table.specs.Shape.{Shaped}
use Rattle.rules.specs.declared.label.Label.{Label}

-- what a rule says of a problem: how many places it has, and of each place below that count its label, the tasks that it names, and whether a table keeps it in a frame
pub record Meaning : Type 1 where
  pub count : Model → ℕ
  pub label : Model → ℕ → Label
  pub tasks : Model → ℕ → List ℕ
  pub kept : Model → Rows → ℕ → ℕ → Type 0

-- reach: two tables that give the named tasks the same rows agree on the place in every frame
abbrev pub Reach : Meaning → Type 0
Reach m =
    (p : Model) (a b : Rows) (k n : ℕ) → Shaped p a → Shaped p b → k < m.count p →
    ((t : ℕ) → Contains (m.tasks p k) t → Agree a b t) → m.kept p a k n → m.kept p b k n

-- absence: a place that names a task without a row is kept in every frame
abbrev pub Absence : Meaning → Type 0
Absence m =
    (p : Model) (rows : Rows) (k n t : ℕ) → Shaped p rows → k < m.count p →
    Contains (m.tasks p k) t → row_at rows t ≡ None → m.kept p rows k n

-- the label of a place; one at or above the count has rule 0 and its own number
abbrev pub label_of : Meaning → Model → ℕ → Label
label_of m p k = (if nat_lt k (m.count p) then m.label p k else record { rule = 0; place = k })

-- the tasks that a place names; one at or above the count names task 0 twice
abbrev pub tasks_of : Meaning → Model → ℕ → List ℕ
tasks_of m p k = (if nat_lt k (m.count p) then m.tasks p k else 0 ∷ 0 ∷ [])

-- a place names a task
abbrev pub Names : Meaning → Model → ℕ → ℕ → Type 0
Names m p k t = Contains (tasks_of m p k) t
