use Rattle.std.specs.Prelude.{List, map, Option}
use Rattle.std.specs.Option.{option_map}
use Rattle.table.specs.declared.stored.StoredRow.{StoredRow}
use Rattle.table.specs.Rows.{RowModel, Rows}

-- the row that is kept
abbrev pub stored_row : StoredRow → RowModel
stored_row s = record { processor = s.processor; parts = s.parts.items }

-- the rows that are kept
abbrev pub stored_rows : List (Option StoredRow) → Rows
stored_rows kept = map (option_map stored_row) kept
