use Rattle.std.specs.Prelude.{◌≡◌, ℕ, ◌<◌, ◌⊎◌, length, None, ◌≢◌}
use Rattle.problem.specs.Limits.{Model}
use Rattle.table.specs.Rows.{Rows, row_at, Agree}
use Rattle.table.specs.Shape.{Shaped}
use Rattle.rules.specs.Judged.{Keeps, Breaks}
use Rattle.rules.specs.Meaning.{Meaning}

-- a lawful table has rows of lawful shape and keeps every place in every frame
pub record Lawful (m : Meaning) (p : Model) (rows : Rows) : Type 0 where
  pub shape : Shaped p rows
  pub keeps : (k : ℕ) → Keeps m p rows k

-- the first broken place of the book: it is broken in some frame, and every earlier place is kept in every frame
pub record FirstBroken (m : Meaning) (p : Model) (rows : Rows) (k : ℕ) : Type 0 where
  pub broken : Breaks m p rows k
  pub before : (j : ℕ) → j < k → Keeps m p rows j

-- a table is part of another: to each task it gives the same row or none
pub record PartOf (part whole : Rows) : Type 0 where
  pub places : length part ≡ length whole
  pub rows : (t : ℕ) → (row_at part t ≡ None) ⊎ Agree part whole t

-- two tables differ in the rows of two tasks at most
abbrev pub DifferAt : ℕ → ℕ → Rows → Rows → Type 0
DifferAt a b before after = (t : ℕ) → (t ≢ a) → (t ≢ b) → Agree before after t
