-- A pair that is not cut off is kept at all its places exactly if both its rules are.
use Rattle.std.proofs.Common.{◌≡◌, ℕ, ◌+◌, ◌-◌, ◌≤◌, inl, inr, arith}
use Rattle.std.proofs.lemmas.Bool.{cases_lt, lt-ltb, le-ltb}
use Rattle.problem.specs.Limits.{Model}
use Rattle.table.specs.Rows.{Rows}
use Rattle.piles.specs.Pair.{paired}
use Rattle.rules.specs.Judged.{Keeps}
use Rattle.rules.specs.Meaning.{Meaning}

-- the table keeps every place of the rule in every frame
abbrev pub KeepsAll : Meaning → Model → Rows → Type 0
KeepsAll m p rows = (k : ℕ) → Keeps m p rows k

module _ (a b : Meaning) (p : Model) (rows : Rows) where
  pub join : KeepsAll a p rows → KeepsAll b p rows → KeepsAll (paired a b) p rows
  join ka kb k n h =
      elim (cases_lt k (a.count p)) [
        | inl below ↦ rw (lt-ltb k (a.count p) below) (ka k n below)
        | inr above ↦ rw (le-ltb k (a.count p) above) (kb (k - a.count p) n (omega arith))
      ]

  pub split_first : a.count p + b.count p ≤ 65537 → KeepsAll (paired a b) p rows → KeepsAll a p rows
  split_first few all k n h = rw (lt-ltb k (a.count p) h) at (all k n (omega arith))

  pub split_second : a.count p + b.count p ≤ 65537 → KeepsAll (paired a b) p rows → KeepsAll b p rows
  split_second few all k n h =
      let above : a.count p ≤ a.count p + k = omega arith in
      let back : a.count p + k - a.count p ≡ k = omega arith in
      rw back at (rw (le-ltb (a.count p + k) (a.count p) above) at (all (a.count p + k) n (omega arith)))
