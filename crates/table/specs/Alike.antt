-- A row has lawful shape in one way only, so a type may keep that fact as it is.
-- Nothing here has to be believed: these are proofs, and they stand here since a type can name no lemma of its own crate that stands elsewhere.
use denote.Struct.Props.{props}
use Rattle.std.specs.Prelude.{List}
use Rattle.problem.specs.declared.dimensions.Dimensions.{Dimensions}
use Rattle.problem.proofs.Known.{same}
use Rattle.table.specs.declared.part.Part.{Part}
use Rattle.table.specs.Rows.{RowModel}
use Rattle.table.specs.Shape.{InTurn, LawfulShape}

turns_prop : (parts : List Part) → IsProp (InTurn parts)
turns_prop parts p q =
    λ i. record {
      spans = same p.spans q.spans (hlevel props) i;
      ordered = same p.ordered q.ordered (hlevel props) i;
    }

pub shape_prop : (d : Dimensions) (row : RowModel) → IsProp (LawfulShape d row)
shape_prop d row p q =
    λ i. record {
      processor = same p.processor q.processor (hlevel props) i;
      some = same p.some q.some (hlevel props) i;
      few = same p.few q.few (hlevel props) i;
      turns = same p.turns q.turns (turns_prop row.parts) i;
      starts = same p.starts q.starts (hlevel props) i;
      ends = same p.ends q.ends (hlevel props) i;
    }
