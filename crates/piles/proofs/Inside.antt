-- The places of which all tasks are in a partition.
use Rattle.std.proofs.Common.{◌≡◌, ℕ, ◌<◌, Bool, true, false, List, All, length, ◌↔◌, IsTrue, refl}
use Rattle.std.proofs.lemmas.Bool.{false≢true}
use Rattle.std.proofs.lemmas.List.Elements.{All-from_all_within}
use Rattle.std.specs.Bool.{MatchBool}
use Rattle.std.specs.List.{AllWithin, HoldsAt}
use Rattle.problem.specs.Limits.{Model, Within}
use Rattle.problem.specs.Lookup.{task_at}
use Rattle.piles.specs.Confinement.{AllIn}

module _ (partition : ℕ) (p : Model) where
  -- the task is in the partition
  abbrev pub InIt : ℕ → Type 0
  InIt t = (task_at p t).partition ≡ partition

  -- the task is not one of the problem's that is in the partition
  abbrev pub NotInIt : ℕ → Type 0
  NotInIt t = t < length p.tasks → ¬ (InIt t)

  -- the answer of `all`
  pub all_in : (tasks : List ℕ) → Within p → All (λ t. t < p.dimensions.tasks) tasks → (r : Bool) →
      MatchBool r (AllWithin InIt tasks 0 (length tasks)) ((k : ℕ) × (k < length tasks) × HoldsAt NotInIt tasks k) → IsTrue r ↔ AllIn partition p tasks
  all_in tasks w known true all = (λ _. All-from_all_within InIt tasks all, λ _. refl)
  all_in tasks w known false one = (
    λ e. absurd (false≢true e),
    λ all. absurd (one.2 0 (rw w.task_count (known one.0 0 one.1)) (all one.0 0 one.1)),
  )
