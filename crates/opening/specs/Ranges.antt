use Rattle.std.specs.Prelude.{ℕ, ◌*◌, ◌≤◌, Bool, true, if◌then◌else◌, not, ◌&&◌, ◌||◌, List, Some, None, Option, MatchOption, ◌==◌, nat_le, nat_lt, slice_index}
use Rattle.words.specs.Words.{read_at, word_at}
use Rattle.problem.specs.declared.dependency.Dependency.{Dependency}
use Rattle.problem.specs.declared.dimensions.Dimensions.{Dimensions}
use Rattle.problem.specs.declared.exclusion.Exclusion.{Exclusion}
use Rattle.problem.specs.declared.task.Task.{Task}
use Rattle.problem.specs.declared.window.Window.{Window}
use Rattle.problem.specs.Limits.{TaskFits, WindowFits, DependencyFits, ExclusionFits}
use Rattle.problem_file.specs.declared.record.Item.{Item}
use Rattle.problem_file.specs.declared.record.Item.TheVariants.{Task as OfTask, Window as OfWindow, Dependency as OfDependency, Exclusion as OfExclusion}
use Rattle.problem_file.specs.Records.{Shown}

-- the second word of a task, its whole mark, is 0 or 1
abbrev pub MarkFits : List ℕ → Type 0
MarkFits bytes = MatchOption (read_at bytes 4) ⊥ (λ mark. mark ≤ 1)

-- what a record says, made of these bytes, has every field in its range
abbrev pub ItemFits : Dimensions → List ℕ → Item → Type 0
ItemFits d bytes (OfTask t) = MarkFits bytes × TaskFits d t
ItemFits d bytes (OfWindow w) = WindowFits d w
ItemFits d bytes (OfDependency x) = DependencyFits d x
ItemFits d bytes (OfExclusion x) = ExclusionFits d x

-- every field of a record is in its range
abbrev pub Fits : Dimensions → Shown → Type 0
Fits d x = ItemFits d x.bytes x.item

-- The same as tests, by which the outcome is computed.

-- a deadline is from 1 to four frames, or missing
abbrev pub deadline_in_range : ℕ → Option ℕ → Bool
deadline_in_range frame None = true
deadline_in_range frame (Some date) = nat_le 1 date && nat_le date (4 * frame)

-- the longest duration on processor `k`: a frame, or 0 past the last processor
abbrev pub longest : Dimensions → ℕ → ℕ
longest d k = (if nat_lt k d.processors then d.frame else 0)

-- every field of a task is in its range
abbrev pub task_in_range : Dimensions → Task → Bool
task_in_range d t =
    nat_lt t.partition d.partitions
    && nat_le t.release (3 * d.frame)
    && deadline_in_range d.frame t.deadline
    && nat_le (slice_index t.durations 0) (longest d 0)
    && nat_le (slice_index t.durations 1) (longest d 1)
    && nat_le (slice_index t.durations 2) (longest d 2)
    && nat_le (slice_index t.durations 3) (longest d 3)

-- every field of a window is in its range, and it has a tick
abbrev pub window_in_range : Dimensions → Window → Bool
window_in_range d w =
    nat_lt w.processor d.processors && nat_lt w.partition d.partitions && nat_lt w.begin w.end && nat_le w.end d.frame

-- every field of a dependency is in its range
abbrev pub dependency_in_range : Dimensions → Dependency → Bool
dependency_in_range d x =
    nat_lt x.source d.tasks && nat_lt x.destination d.tasks && nat_le x.depth 3 && nat_le x.transfer d.frame

-- every field of an exclusion is in its range, and its tasks are two
abbrev pub exclusion_in_range : Dimensions → Exclusion → Bool
exclusion_in_range d x =
    nat_lt x.first d.tasks && nat_lt x.second d.tasks && not (x.first == x.second) && nat_le x.distance 3

-- what a record says, made of these bytes, has every field in its range, and a task's whole mark is 0 or 1
abbrev pub item_in_range : Dimensions → List ℕ → Item → Bool
item_in_range d bytes (OfTask t) = nat_le (word_at bytes 4) 1 && task_in_range d t
item_in_range d bytes (OfWindow w) = window_in_range d w
item_in_range d bytes (OfDependency x) = dependency_in_range d x
item_in_range d bytes (OfExclusion x) = exclusion_in_range d x

-- every field of a record is in its range, and a task's whole mark is 0 or 1
abbrev pub in_range : Dimensions → Shown → Bool
in_range d x = item_in_range d x.bytes x.item

-- window `w` may stand right after `v`: on a higher processor, or on the same where `v` has ended
abbrev pub follows : Window → Window → Bool
follows v w = nat_lt v.processor w.processor || (v.processor == w.processor && nat_le v.end w.begin)
