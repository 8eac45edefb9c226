-- The laws of the piles: a pile keeps the laws of the rules that it is made of.
-- Nothing here has to be believed: these are proofs, and they stand here since an implementation can name no lemma of its own crate that stands elsewhere.
use Rattle.std.specs.Prelude.{ℕ, ◌-◌, List}
use Rattle.std.proofs.Common.{inl, inr, arith}
use Rattle.std.proofs.lemmas.Bool.{cases_lt, lt-ltb, le-ltb}
use Rattle.problem.specs.Limits.{Model}
use Rattle.rules.specs.Meaning.{Meaning, Reach, Absence}
use Rattle.piles.specs.Pair.{paired}
use Rattle.piles.specs.Scoped.{scoped}
use Rattle.piles.specs.Confinement.{Inside, confined}
use Rattle.piles.specs.Waiver.{NotListed, waived}

module _ (a b : Meaning) where
  -- a pair has reach if both its rules have
  pub paired_reach : Reach a → Reach b → Reach (paired a b)
  paired_reach ra rb p x y k n sx sy below =
      elim (cases_lt k (a.count p)) [
        | inl h ↦ rw (lt-ltb k (a.count p) h) (ra p x y k n sx sy h)
        | inr h ↦ rw (le-ltb k (a.count p) h) (rb p x y (k - a.count p) n sx sy (omega arith))
      ]

  -- a pair has absence if both its rules have
  pub paired_absence : Absence a → Absence b → Absence (paired a b)
  paired_absence na nb p rows k n t s below =
      elim (cases_lt k (a.count p)) [
        | inl h ↦ rw (lt-ltb k (a.count p) h) (na p rows k n t s h)
        | inr h ↦ rw (le-ltb k (a.count p) h) (nb p rows (k - a.count p) n t s (omega arith))
      ]

module _ (Covers : Model → ℕ → List ℕ → Type 0) (m : Meaning) where
  -- a rule in a scope has reach if the lower rule has
  pub scoped_reach : Reach m → Reach (scoped Covers m)
  scoped_reach reach p a b k n sa sb below same kept covered = reach p a b k n sa sb below same (kept covered)

  -- a rule in a scope has absence if the lower rule has
  pub scoped_absence : Absence m → Absence (scoped Covers m)
  scoped_absence absence p rows k n t s below has none covered = absence p rows k n t s below has none

-- a waiver has reach if the rule below has
pub waived_reach : (places : List ℕ) (m : Meaning) → Reach m → Reach (waived places m)
waived_reach places m = scoped_reach (NotListed places) m

-- a waiver has absence if the rule below has
pub waived_absence : (places : List ℕ) (m : Meaning) → Absence m → Absence (waived places m)
waived_absence places m = scoped_absence (NotListed places) m

-- a confinement has reach if the rule below has
pub confined_reach : (partition : ℕ) (m : Meaning) → Reach m → Reach (confined partition m)
confined_reach partition m = scoped_reach (Inside partition) m

-- a confinement has absence if the rule below has
pub confined_absence : (partition : ℕ) (m : Meaning) → Absence m → Absence (confined partition m)
confined_absence partition m = scoped_absence (Inside partition) m
