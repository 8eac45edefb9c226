-- The laws of the rule on overlaps.
-- Nothing here has to be believed: these are proofs, and they stand here since an implementation can name no lemma of its own crate that stands elsewhere.
use Rattle.std.specs.Prelude.{◌/◌, ◌%◌, [], ◌∷◌}
use Rattle.std.proofs.Common.{inl, inr, ◌∙◌}
use Rattle.rules.specs.Meaning.{Reach, Absence}
use Rattle.rules.proofs.Named.{has_first, has_later, has_two}
use Rattle.overlap_rule.specs.Overlaps.{overlap_rule}

pub overlaps_reach : Reach overlap_rule
overlaps_reach p a b k n sa sb h same kept below x y ex ey =
    let i = k / p.dimensions.tasks in let j = k % p.dimensions.tasks in
    kept below x y (same i (has_first i (j ∷ [])) ∙ ex) (same j (has_later i (j ∷ []) j (has_first j [])) ∙ ey)

pub overlaps_absence : Absence overlap_rule
overlaps_absence p rows k n t s h has none below x y ex ey =
    elim (has_two (k / p.dimensions.tasks) (k % p.dimensions.tasks) t has) [ inl e ↦ absurd (cc) | inr e ↦ absurd (cc) ]
