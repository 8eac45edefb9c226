-- The laws of the rule on dependencies.
-- Nothing here has to be believed: these are proofs, and they stand here since an implementation can name no lemma of its own crate that stands elsewhere.
use Rattle.std.specs.Prelude.{[], ◌∷◌}
use Rattle.std.proofs.Common.{inl, inr, ◌∙◌}
use Rattle.problem.specs.Lookup.{dependency_at}
use Rattle.rules.specs.Meaning.{Reach, Absence}
use Rattle.rules.proofs.Named.{has_first, has_later, has_two}
use Rattle.dependency_rule.specs.Dependencies.{dependency_rule}

pub dependencies_reach : Reach dependency_rule
dependencies_reach p a b d n sa sb h same kept from to ef et =
    let x = dependency_at p d in
    kept from to (same x.source (has_first x.source (x.destination ∷ [])) ∙ ef)
    (same x.destination (has_later x.source (x.destination ∷ []) x.destination (has_first x.destination [])) ∙ et)

pub dependencies_absence : Absence dependency_rule
dependencies_absence p rows d n t s h has none from to ef et =
    elim (has_two (dependency_at p d).source (dependency_at p d).destination t has) [ inl e ↦ absurd (cc) | inr e ↦ absurd (cc) ]
