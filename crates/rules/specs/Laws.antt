-- The laws of rules with a place for each task.
-- Nothing here has to be believed: these are proofs, and they stand here since an implementation can name no lemma of its own crate that stands elsewhere.
use Rattle.std.specs.Prelude.{◌≡◌, ℕ, ◌⊎◌, [], ◌∷◌, Contains}
use Rattle.std.proofs.Common.{zero, suc, refl, ◌∙◌, inl, inr, arith}
use Rattle.problem.specs.declared.task.Task.{Task}
use Rattle.problem.specs.Limits.{Model}
use Rattle.table.specs.Rows.{RowModel}
use Rattle.rules.specs.EachTask.{of_each_task}
use Rattle.rules.specs.Meaning.{Reach, Absence}

-- a list of two has no third
pub has_two : (a b t : ℕ) → Contains (a ∷ b ∷ []) t → (a ≡ t) ⊎ (b ≡ t)
has_two a b t (zero, h, at) = inl at
has_two a b t (suc zero, h, at) = inr at
has_two a b t (suc (suc k), h, at) = absurd (omega arith)

module _ (rule : ℕ) (Wanted : Model → Task → RowModel → ℕ → Type 0) where
  pub each_reach : Reach (of_each_task rule Wanted)
  each_reach p a b t n sa sb h same kept row e = kept row (same t (0, omega arith, refl) ∙ e)

  pub each_absence : Absence (of_each_task rule Wanted)
  each_absence p rows t n u s h has none row e = elim (has_two t t u has) [ inl same ↦ absurd (cc) | inr same ↦ absurd (cc) ]
