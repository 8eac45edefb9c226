use Rattle.std.specs.Prelude.{◌≡◌, ℕ, Some, None, Option}
use Rattle.problem.specs.Limits.{Model}
use Rattle.table.specs.Rows.{Rows}
use Rattle.rules.specs.declared.label.Label.{Label}
use Rattle.rules.specs.Lawful.{FirstBroken}
use Rattle.rules.specs.Meaning.{label_of}
use Rattle.published.specs.Book.{published_book}
use Rattle.published.specs.Conditions.{Conditions}

-- what the judgement of a table says: nothing where it meets the eight conditions, else the label of the published book's first broken place, and then some condition is not met
abbrev pub FoundLabel : Model → Rows → Option Label → Type 0
FoundLabel p rows None = Conditions p rows
FoundLabel p rows (Some label) = ((k : ℕ) × (label ≡ label_of published_book p k) × FirstBroken published_book p rows k) × ¬ (Conditions p rows)
