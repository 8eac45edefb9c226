use Rattle.table.specs.declared.row.Row.{Row}
use Rattle.table.specs.Rows.{RowModel}

-- what the code's row says
abbrev pub row_model : Row → RowModel
row_model row = record { processor = row.processor; parts = row.parts.now }
