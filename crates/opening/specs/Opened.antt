use Rattle.std.specs.Prelude.{ℕ, zero, suc, ◌+◌, Bool, false, if◌then◌else◌, not, List, map, length, Some, None, Ok, Err, Option, Result, slice_index_or}
use Rattle.std.specs.List.{range_with_len}
use Rattle.std.specs.Option.{option_map, option_or}
use Rattle.problem.specs.declared.dependency.Dependency.{Dependency}
use Rattle.problem.specs.declared.exclusion.Exclusion.{Exclusion}
use Rattle.problem.specs.declared.task.Task.{Task}
use Rattle.problem.specs.declared.window.Window.{Window}
use Rattle.problem.specs.Limits.{Model}
use Rattle.problem.specs.Lookup.{no_window}
use Rattle.problem_file.specs.declared.counts.Counts.{Counts}
use Rattle.problem_file.specs.declared.fault.FileFault.{FileFault}
use Rattle.problem_file.specs.declared.layout.Section.TheVariants.{Tasks, Windows, Dependencies, Exclusions}
use Rattle.problem_file.specs.Header.{header_of}
use Rattle.problem_file.specs.Layout.{count, first, total, record_bytes}
use Rattle.problem_file.specs.Records.{Shown, task_of, window_of, dependency_of, exclusion_of, record_in}
use Rattle.opening.specs.declared.fault.Fault.{Fault}
use Rattle.opening.specs.declared.fault.Fault.TheVariants.{File, Problem}
use Rattle.opening.specs.declared.fault.ProblemFault.{ProblemFault}
use Rattle.opening.specs.declared.fault.ProblemFault.TheVariants.{Field, Order}
use Rattle.opening.specs.Ranges.{in_range, follows}

-- what record `i` of the file states as a task
abbrev pub task_in : Counts → List ℕ → ℕ → Task
task_in c file i = task_of c.dimensions.processors (record_bytes c file Tasks i)

-- what record `i` of the file states as a window
abbrev pub window_in : Counts → List ℕ → ℕ → Window
window_in c file i = window_of (record_bytes c file Windows i)

-- what record `i` of the file states as a dependency
abbrev pub dependency_in : Counts → List ℕ → ℕ → Dependency
dependency_in c file i = dependency_of (record_bytes c file Dependencies i)

-- what record `i` of the file states as an exclusion
abbrev pub exclusion_in : Counts → List ℕ → ℕ → Exclusion
exclusion_in c file i = exclusion_of (record_bytes c file Exclusions i)

-- the problem that the file states: each list from the records of its section, counted from the section's first
unfoldable pub stated : Counts → List ℕ → Model
stated c file = record {
  dimensions = c.dimensions;
  tasks = map (task_in c file) (range_with_len (first c Tasks) (count c Tasks));
  windows = map (window_in c file) (range_with_len (first c Windows) (count c Windows));
  dependencies = map (dependency_in c file) (range_with_len (first c Dependencies) (count c Dependencies));
  exclusions = map (exclusion_in c file) (range_with_len (first c Exclusions) (count c Exclusions));
}

-- the lowest number below `n` that passes the test
unfoldable pub lowest : (ℕ → Bool) → ℕ → Option ℕ
lowest test zero = None
lowest test (suc n) = option_or (lowest test n) (if test n then Some n else None)

-- a record that is there has a field outside its range
abbrev pub outside : Counts → Option Shown → Bool
outside c None = false
outside c (Some x) = not (in_range c.dimensions x)

-- record `i` has a field outside its range
unfoldable pub misfit : Counts → List ℕ → ℕ → Bool
misfit c file i = outside c (record_in c file i)

-- the window before window `k` of the list, if there is one
abbrev pub window_before : List Window → ℕ → Option Window
window_before ws zero = None
window_before ws (suc k) = Some (slice_index_or ws k no_window)

-- a window may not stand after the one before it
abbrev pub out_of_place : Option Window → Window → Bool
out_of_place None w = false
out_of_place (Some v) w = not (follows v w)

-- window `k` of the list may not stand after the one before it
unfoldable pub misplaced : List Window → ℕ → Bool
misplaced ws k = out_of_place (window_before ws k) (slice_index_or ws k no_window)

-- check 4: the lowest record with a field outside its range
abbrev pub field_fault : Counts → List ℕ → Option ProblemFault
field_fault c file = option_map Field (lowest (misfit c file) (total c))

-- check 5: the lowest window that may not stand after the one before it, counted through all sections
abbrev pub order_fault : Counts → List Window → Option ProblemFault
order_fault c ws = option_map (λ k. Order (first c Windows + k)) (lowest (misplaced ws) (length ws))

-- the first fault of the records: check 5 counts only where check 4 finds nothing
abbrev pub records_fault : Counts → List ℕ → Option ProblemFault
records_fault c file = option_or (field_fault c file) (order_fault c (stated c file).windows)

-- a problem is granted where its records have no fault
abbrev pub judged : Model → Option ProblemFault → Result Model Fault
judged m None = Ok m
judged m (Some fault) = Err (Problem fault)

-- the outcome after the checks of the header
abbrev pub header_opened : List ℕ → Result Counts FileFault → Result Model Fault
header_opened file (Err fault) = Err (File fault)
header_opened file (Ok c) = judged (stated c file) (records_fault c file)

-- the one outcome of opening a file: its problem, or its first fault
abbrev pub opened : List ℕ → Result Model Fault
opened file = header_opened file (header_of file)
