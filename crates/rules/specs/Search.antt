use Rattle.std.specs.Prelude.{ℕ, ◌<◌, ◌⊎◌, Some, None, Option}
use Rattle.problem.specs.Limits.{Model}
use Rattle.table.specs.Rows.{Rows, Agree}
use Rattle.table.specs.Shape.{Shaped}
use Rattle.rules.specs.Judged.{Keeps, Breaks}
use Rattle.rules.specs.Lawful.{Lawful, FirstBroken, PartOf, DifferAt}
use Rattle.rules.specs.Meaning.{Meaning, Names}

-- a place names one of two tasks
abbrev pub NamesEither : Meaning → Model → ℕ → ℕ → ℕ → Type 0
NamesEither m p k a b = Names m p k a ⊎ Names m p k b

-- a place names one of two tasks and is broken in some frame
pub record BrokenNaming (m : Meaning) (p : Model) (rows : Rows) (a b k : ℕ) : Type 0 where
  pub named : NamesEither m p k a b
  pub broken : Breaks m p rows k

-- a place is kept in every frame if it names one of two tasks
pub record KeptNaming (m : Meaning) (p : Model) (rows : Rows) (a b k : ℕ) : Type 0 where
  pub kept : NamesEither m p k a b → Keeps m p rows k

-- the first place, in book order, that names one of two tasks and is broken
pub record FirstNaming (m : Meaning) (p : Model) (rows : Rows) (a b k : ℕ) : Type 0 where
  pub named : NamesEither m p k a b
  pub broken : Breaks m p rows k
  pub before : (j : ℕ) → j < k → NamesEither m p j a b → Keeps m p rows j

-- what a search of the places that name one of two tasks finds: the first broken one, or that all are kept
abbrev pub FoundNaming : Meaning → Model → Rows → ℕ → ℕ → Option ℕ → Type 0
FoundNaming m p rows a b None = (k : ℕ) → NamesEither m p k a b → Keeps m p rows k
FoundNaming m p rows a b (Some k) = FirstNaming m p rows a b k

-- what a search of the whole book finds: its first broken place, or that the table is lawful
abbrev pub Found : Meaning → Model → Rows → Option ℕ → Type 0
Found m p rows None = Lawful m p rows
Found m p rows (Some k) = FirstBroken m p rows k

-- where a lawful table was changed in the rows of two tasks at most, a search of the places that name them finds what a search of the whole book would
abbrev pub FoundAfterChange : Meaning → Model → Rows → ℕ → ℕ → Option ℕ → Type 0
FoundAfterChange m p rows a b found = (before : Rows) → Lawful m p before → DifferAt a b before rows → Found m p rows found

-- what is more, of a table in which no place is broken: every part of it is lawful, and a change of rows leaves every place that names none of their tasks kept
pub record Lasting (m : Meaning) (p : Model) (rows : Rows) : Type 0 where
  pub parts : (part : Rows) → PartOf part rows → Lawful m p part
  pub unnamed : (after : Rows) (k : ℕ) → Shaped p after → ((t : ℕ) → Names m p k t → Agree rows after t) → Keeps m p after k
