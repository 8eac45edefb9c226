use Rattle.std.specs.Prelude.{◌≡◌, ℕ, ◌+◌, ◌-◌, ◌<◌, ◌≤◌, min, if◌then◌else◌, nat_lt, Some, None, Option, MatchBool}
use Rattle.problem.specs.Limits.{Model}
use Rattle.rules.specs.Meaning.{Meaning}
use Rattle.piles.specs.declared.pair.Side.{Side}
use Rattle.piles.specs.declared.pair.Side.TheVariants.{First, Second}

-- the places of the first rule, then those of the second, cut off at 65,537
abbrev pub paired : Meaning → Meaning → Meaning
paired a b = record {
  count = λ p. min (a.count p + b.count p) 65537;
  label = λ p k. (if nat_lt k (a.count p) then a.label p k else b.label p (k - a.count p));
  tasks = λ p k. (if nat_lt k (a.count p) then a.tasks p k else b.tasks p (k - a.count p));
  kept = λ p rows k n. MatchBool (nat_lt k (a.count p)) (a.kept p rows k n) (b.kept p rows (k - a.count p) n);
}

-- where place `k` of the pair stands: at a place of the first rule or of the second, or nowhere if it is at or above the count
abbrev pub SideOf : Meaning → Meaning → Model → ℕ → Option Side → Type 0
SideOf a b p k (Some (First j)) = (k < (paired a b).count p) × (k < a.count p) × (j ≡ k)
SideOf a b p k (Some (Second j)) = (k < (paired a b).count p) × (a.count p ≤ k) × (j ≡ k - a.count p)
SideOf a b p k None = (paired a b).count p ≤ k
