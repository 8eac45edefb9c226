use Rattle.std.proofs.Common.{sym}
use Rattle.table.specs.Row.{row_model}
use Rattle.table.proofs.table.Table.placed.Goals as goal

pub invariant_of-result : goal.invariant_of-result
invariant_of-result c = record { shape = c.row.ensures.shaped.shapes c.args.task (row_model c.in_ok-row.row) (sym c.in_ok-row.ensures.value) }
