-- A pair of rules: each of its places is judged as a place of the first rule or of the second.
use Rattle.std.proofs.Common.{ℕ, ◌-◌, Some, arith}
use Rattle.std.proofs.lemmas.Bool.{lt-ltb, le-ltb}
use Rattle.problem.specs.Limits.{Model}
use Rattle.table.specs.Rows.{Rows}
use Rattle.rules.specs.declared.judgement.Judgement.{Judgement}
use Rattle.rules.specs.declared.judgement.Judgement.TheVariants.{Kept, Broken}
use Rattle.rules.specs.Judged.{Judged, KeptIn}
use Rattle.rules.specs.Meaning.{Meaning}
use Rattle.piles.specs.declared.pair.Side.{Side}
use Rattle.piles.specs.declared.pair.Side.TheVariants.{First, Second}
use Rattle.piles.specs.Pair.{SideOf, paired}
use Rattle.piles.proofs.Alike.{judged_alike}

module _ (a b : Meaning) (p : Model) (rows : Rows) where
  -- what a judgement of the place of the first rule or of the second says
  abbrev pub JudgedThere : Side → Judgement → Type 0
  JudgedThere (First j) = Judged a p rows j
  JudgedThere (Second j) = Judged b p rows j

  -- it is a judgement of the place of the pair
  pub judged_side : (k : ℕ) (side : Side) → SideOf a b p k (Some side) → (r : Judgement) → JudgedThere side r → Judged (paired a b) p rows k r
  judged_side k (First j) (below, h, same) r judged =
      let is = lt-ltb k (a.count p) h in
      judged_alike a (paired a b) p rows k k (λ n kept _. rw is (kept h)) (λ n kept _. rw is at (kept below)) r (rw same at judged)
  judged_side k (Second j) (below, h, same) r judged =
      let is = le-ltb k (a.count p) h in
      judged_alike b (paired a b) p rows (k - a.count p) k (λ n kept _. rw is (kept (omega arith))) (λ n kept _. rw is at (kept below)) r (rw same at judged)
