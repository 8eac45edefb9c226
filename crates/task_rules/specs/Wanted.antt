use Rattle.std.specs.Prelude.{◌≡◌, ℕ, ◌-◌, ◌≤◌, true, List, length, Some, ◌≢◌}
use Rattle.std.specs.List.{sum_by}
use Rattle.problem.specs.declared.task.Task.{Task}
use Rattle.problem.specs.Lookup.{duration_on}
use Rattle.table.specs.declared.part.Part.{Part}
use Rattle.table.specs.Rows.{RowModel, start_of, end_of}

-- the lengths of the parts, added up
abbrev pub ticks_of : List Part → ℕ
ticks_of parts = sum_by (λ part. part.end - part.begin) parts

-- allocation: the duration on the row's processor is not 0
abbrev pub Allocated : Task → RowModel → Type 0
Allocated task row = duration_on task row.processor ≢ 0

-- duration: the lengths of the row's parts add up to at least that duration
abbrev pub LongEnough : Task → RowModel → Type 0
LongEnough task row = duration_on task row.processor ≤ ticks_of row.parts

-- whole: a task marked whole has one part
abbrev pub Unsplit : Task → RowModel → Type 0
Unsplit task row = task.whole ≡ true → length row.parts ≡ 1

-- release: the start is at least the release date
abbrev pub Released : Task → RowModel → Type 0
Released task row = task.release ≤ start_of row

-- deadline: the end is at most the deadline, if there is one
abbrev pub OnTime : Task → RowModel → Type 0
OnTime task row = (date : ℕ) → task.deadline ≡ Some date → end_of row ≤ date
