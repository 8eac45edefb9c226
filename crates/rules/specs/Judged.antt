use Rattle.std.specs.Prelude.{ℕ, ◌<◌}
use Rattle.problem.specs.Limits.{Model}
use Rattle.table.specs.Rows.{Rows}
use Rattle.rules.specs.declared.judgement.Judgement.{Judgement}
use Rattle.rules.specs.declared.judgement.Judgement.TheVariants.{Kept, Broken}
use Rattle.rules.specs.Meaning.{Meaning}

module _ (m : Meaning) (p : Model) (rows : Rows) (k : ℕ) where
  -- place `k` is kept in frame `n`; one at or above the count always is
  abbrev pub KeptIn : ℕ → Type 0
  KeptIn n = k < m.count p → m.kept p rows k n

  -- the place is kept in every frame
  abbrev pub Keeps : Type 0
  Keeps = (n : ℕ) → KeptIn n

  -- the place is broken in some frame, and here is that frame
  abbrev pub Breaks : Type 0
  Breaks = (n : ℕ) × ¬ (KeptIn n)

  -- what a judgement says
  abbrev pub Judged : Judgement → Type 0
  Judged Kept = Keeps
  Judged Broken = Breaks
