-- The rows that a table keeps, as the rows that it says.
use Rattle.std.proofs.Common.{◌≡◌, ℕ, zero, suc, List, ◌∷◌, set, replicate, Some, None, Option, sym, refl, ap, subst}
use Rattle.std.proofs.lemmas.List.{map-set}
use Rattle.std.specs.Option.{option_map}
use Rattle.table.specs.declared.stored.StoredRow.{StoredRow}
use Rattle.table.specs.declared.table.Table.{Table}
use Rattle.table.specs.Rows.{RowModel, Rows}
use Rattle.table.specs.Shape.{LawfulShape, Shaped}
use Rattle.table.specs.Stored.{stored_row, stored_rows}
use Rattle.table.specs.Table.{problem_of, rows_of}
use Rattle.table.proofs.Known.{knows}
use Rattle.table.proofs.Shapes.{shaped_set}

-- nothing kept, no rows
pub slots_none : (n : ℕ) → stored_rows (replicate n None) ≡ replicate n None
slots_none zero = refl
slots_none (suc n) = ap (λ (rows : Rows). None ∷ rows) (slots_none n)

pub slots_set : (kept : List (Option StoredRow)) (t : ℕ) (x : Option StoredRow) → stored_rows (set kept t x) ≡ set (stored_rows kept) t (option_map stored_row x)
slots_set kept t x = map-set (option_map stored_row) kept t x

-- the table keeps its lawful shape where what is kept at one place changes to nothing or to a row of lawful shape
pub slots_shaped :
    (t : Table) (u : ℕ) (x : Option StoredRow) → ((row : RowModel) → option_map stored_row x ≡ Some row → LawfulShape t.problem.dimensions row) →
    Shaped (problem_of t) (stored_rows (set t.rows.items u x))
slots_shaped t u x new =
    subst (λ (rows : Rows). Shaped (problem_of t) rows) (sym (slots_set t.rows.items u x)) (shaped_set (problem_of t) (rows_of t) u (option_map stored_row x) (knows t) new)
