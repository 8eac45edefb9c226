-- Two places that are kept in the same frames.
use Rattle.std.proofs.Common.{ℕ}
use Rattle.problem.specs.Limits.{Model}
use Rattle.table.specs.Rows.{Rows}
use Rattle.rules.specs.declared.judgement.Judgement.{Judgement}
use Rattle.rules.specs.declared.judgement.Judgement.TheVariants.{Kept, Broken}
use Rattle.rules.specs.Judged.{Judged, KeptIn}
use Rattle.rules.specs.Meaning.{Meaning}

-- a judgement of the one is a judgement of the other
pub judged_alike : (m w : Meaning) (p : Model) (rows : Rows) (j k : ℕ) →
    ((n : ℕ) → KeptIn m p rows j n → KeptIn w p rows k n) → ((n : ℕ) → KeptIn w p rows k n → KeptIn m p rows j n) →
    (r : Judgement) → Judged m p rows j r → Judged w p rows k r
judged_alike m w p rows j k to from Kept keeps = λ n. to n (keeps n)
judged_alike m w p rows j k to from Broken breaks = (breaks.0, λ kept. breaks.1 (from breaks.0 kept))
