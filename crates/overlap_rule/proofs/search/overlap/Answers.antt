use Rattle.std.proofs.Common.{sym}
use Rattle.table.specs.Row.{row_model}
use Rattle.table.specs.Table.{problem_of, rows_of}
use Rattle.overlap_rule.proofs.OfOverlaps.{found_overlap}
use Rattle.overlap_rule.proofs.search.overlap.Goals as goal

pub between-requires : goal.between-requires
between-requires c =
    let s = c.row.ensures.shaped in
    record {
      a = s.shapes c.args.i (row_model c.in_ok-a.a) (sym c.in_ok-a.ensures.value);
      b = s.shapes c.args.j (row_model c.in_ok-b.b) (sym c.in_ok-b.ensures.value);
    }

pub returns : goal.returns
returns c =
    let s = c.row.ensures.shaped in
    let a = row_model c.in_ok-a.a in let b = row_model c.in_ok-b.b in
    let ea = c.in_ok-a.ensures.value in let eb = c.in_ok-b.ensures.value in
    found_overlap (problem_of c.args.table.now) c.args.i c.args.j (rows_of c.args.table.now) a b (s.shapes c.args.i a (sym ea)) (s.shapes c.args.j b (sym eb))
    ea eb c.if-a-b.false c.between.result c.between.ensures
