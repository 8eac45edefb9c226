-- Whoever holds a table knows its lawful shape: the type keeps that fact in a form of which no two proofs differ, and here it comes out whole.
use mathlib.Core.Logic.{∥∥₁_elim}
use denote.Struct.Props.{props}
use Rattle.problem.specs.Limits.{Model}
use Rattle.problem.proofs.Known.{same, within_prop}
use Rattle.table.specs.Alike.{shape_prop}
use Rattle.table.specs.declared.table.Table.{Table}
use Rattle.table.specs.Rows.{Rows}
use Rattle.table.specs.Shape.{Shaped}
use Rattle.table.specs.Table.{problem_of, rows_of}

shaped_prop : (m : Model) (rows : Rows) → IsProp (Shaped m rows)
shaped_prop m rows p q =
    λ i. record {
      problem = same p.problem q.problem (within_prop m) i;
      places = same p.places q.places (hlevel props) i;
      shapes = same p.shapes q.shapes (hlevel (props, shape_prop)) i;
    }

pub knows : (t : Table) → Shaped (problem_of t) (rows_of t)
knows t = ∥∥₁_elim t.shaped (shaped_prop (problem_of t) (rows_of t)) (λ s. s)
