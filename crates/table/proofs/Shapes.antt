-- Tables stay in lawful shape where rows are put in and taken out.
use Rattle.std.proofs.Common.{◌≡◌, ℕ, zero, suc, ◌<◌, ◌⊎◌, List, [], ◌∷◌, length, get_or, set, replicate, Some, None, Option, ◌∙◌, inl, inr, arith}
use Rattle.std.proofs.lemmas.List.{get_or_past, length-set, length-replicate}
use Rattle.std.proofs.lemmas.Bool.{cases_lt}
use Rattle.problem.specs.Limits.{Model, Within}
use Rattle.table.specs.Rows.{RowModel, Rows, row_at, no_rows}
use Rattle.table.specs.Shape.{LawfulShape, Shaped}

-- at each place of a list that was changed at one, there is what was put in or what was there
pub set_at : {X : Type 0} (xs : List X) (t u : ℕ) (x d y : X) → get_or (set xs t x) u d ≡ y → (x ≡ y) ⊎ (get_or xs u d ≡ y)
set_at [] t u x d y e = inr e
set_at (z ∷ xs) zero zero x d y e = inl e
set_at (z ∷ xs) zero (suc u) x d y e = inr e
set_at (z ∷ xs) (suc t) zero x d y e = inr e
set_at (z ∷ xs) (suc t) (suc u) x d y e = set_at xs t u x d y e

-- no task has a row in the table without rows
no_row : (n t : ℕ) (row : RowModel) → row_at (replicate n None) t ≡ Some row → ⊥
no_row zero t row e = let z : ◌≡◌ {A = ℕ} 0 1 = cc in omega arith
no_row (suc n) zero row e = let z : ◌≡◌ {A = ℕ} 0 1 = cc in omega arith
no_row (suc n) (suc t) row e = no_row n t row e

pub shaped_none : (p : Model) → Within p → Shaped p (no_rows p)
shaped_none p w = record {
  problem = w;
  places = length-replicate p.dimensions.tasks None;
  shapes = λ t row e. absurd (no_row p.dimensions.tasks t row e);
}

pub shaped_set : (p : Model) (rows : Rows) (t : ℕ) (x : Option RowModel) → Shaped p rows → ((row : RowModel) → x ≡ Some row → LawfulShape p.dimensions row) → Shaped p (set rows t x)
shaped_set p rows t x s new = record {
  problem = s.problem;
  places = length-set rows t x ∙ s.places;
  shapes = λ u row e. elim (set_at rows t u x None (Some row) e) [ inl h ↦ new row h | inr h ↦ s.shapes u row h ];
}

-- what has a row is a task of the problem
pub row_number : (p : Model) (rows : Rows) (t : ℕ) (row : RowModel) → Shaped p rows → row_at rows t ≡ Some row → t < p.dimensions.tasks
row_number p rows t row s e =
    elim (cases_lt t (length rows)) [
      | inl h ↦ omega (arith, s.places)
      | inr h ↦ absurd (let past = get_or_past rows t None h in let z : ◌≡◌ {A = ℕ} 0 1 = cc in omega arith)
    ]
