use Rattle.std.specs.Prelude.{ℕ, List, Contains}
use Rattle.problem.specs.Limits.{Model}
use Rattle.rules.specs.Meaning.{Meaning}
use Rattle.piles.specs.declared.scoped.Scoped.{Scoped}
use Rattle.piles.specs.declared.unlisted.Unlisted.{Unlisted}
use Rattle.piles.specs.Scoped.{scoped}

-- the place numbers that a waiver lists, in the order in which they were added
abbrev pub listed : {R : Type 0} → Scoped R Unlisted → List ℕ
listed w = w.scope.places.items

-- a place is not listed
abbrev pub NotListed : List ℕ → Model → ℕ → List ℕ → Type 0
NotListed places p k tasks = ¬ (Contains places k)

-- a listed place is kept; all else is the lower rule's
abbrev pub waived : List ℕ → Meaning → Meaning
waived places m = scoped (NotListed places) m
