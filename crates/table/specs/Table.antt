use Rattle.std.specs.Prelude.{vec_items}
use Rattle.problem.specs.Limits.{Model}
use Rattle.problem.specs.Model.{model}
use Rattle.table.specs.declared.table.Table.{Table}
use Rattle.table.specs.Rows.{Rows}
use Rattle.table.specs.Stored.{stored_rows}

-- the problem that the table is of
abbrev pub problem_of : Table → Model
problem_of t = model t.problem

-- the rows that the table holds
abbrev pub rows_of : Table → Rows
rows_of t = stored_rows (vec_items t.rows)
