use Rattle.std.specs.Prelude.{◌≡◌, ℕ, ◌*◌, ◌<◌, ◌≤◌, List, length, Some, None, Option, slice_index, slice_index_or, ◌≢◌}
use Rattle.std.specs.List.{AllByRecursion}
use Rattle.problem.specs.declared.dependency.Dependency.{Dependency}
use Rattle.problem.specs.declared.dimensions.Dimensions.{Dimensions}
use Rattle.problem.specs.declared.exclusion.Exclusion.{Exclusion}
use Rattle.problem.specs.declared.task.Task.{Task}
use Rattle.problem.specs.declared.window.Window.{Window}

-- what a problem says: its dimensions and its four lists
pub record Model : Type 0 where
  pub dimensions : Dimensions
  pub tasks : List Task
  pub windows : List Window
  pub dependencies : List Dependency
  pub exclusions : List Exclusion

-- `n` is from `low` to `high`, both included
abbrev pub Between : ℕ → ℕ → ℕ → Type 0
Between low n high = (low ≤ n) × (n ≤ high)

-- the frame has 1 to 1,000,000 ticks, and there are 1 to 4 processors, 1 to 8 partitions and 1 to 64 tasks
abbrev pub DimensionsFit : Dimensions → Type 0
DimensionsFit d =
    Between 1 d.frame 1000000 × Between 1 d.processors 4 × Between 1 d.partitions 8 × Between 1 d.tasks 64

-- a deadline is from 1 to four frames, or missing
abbrev pub DeadlineFits : ℕ → Option ℕ → Type 0
DeadlineFits frame None = Unit {0}
DeadlineFits frame (Some date) = Between 1 date (4 * frame)

-- four places: for each processor a duration of at most a frame, and 0 past the last processor
pub record DurationsFit (d : Dimensions) (durations : List ℕ) : Type 0 where
  pub places : length durations ≡ 4
  pub given : (p : ℕ) → p < d.processors → slice_index durations p ≤ d.frame
  pub unused : (p : ℕ) → d.processors ≤ p → slice_index durations p ≡ 0

-- every field of a task is in its range
pub record TaskFits (d : Dimensions) (t : Task) : Type 0 where
  pub partition : t.partition < d.partitions
  pub release : t.release ≤ 3 * d.frame
  pub deadline : DeadlineFits d.frame t.deadline
  pub durations : DurationsFit d t.durations

-- every field of a window is in its range, and it has a tick
pub record WindowFits (d : Dimensions) (w : Window) : Type 0 where
  pub processor : w.processor < d.processors
  pub partition : w.partition < d.partitions
  pub some : w.begin < w.end
  pub end : w.end ≤ d.frame

-- every field of a dependency is in its range
pub record DependencyFits (d : Dimensions) (x : Dependency) : Type 0 where
  pub source : x.source < d.tasks
  pub destination : x.destination < d.tasks
  pub depth : x.depth ≤ 3
  pub transfer : x.transfer ≤ d.frame

-- every field of an exclusion is in its range, and its tasks are two
pub record ExclusionFits (d : Dimensions) (x : Exclusion) : Type 0 where
  pub first : x.first < d.tasks
  pub second : x.second < d.tasks
  pub two : x.first ≢ x.second
  pub distance : x.distance ≤ 3

-- window `w` may stand after `v`: processors do not fall, and on one processor a window begins where the one before has ended
pub record Follows (v w : Window) : Type 0 where
  pub processors : v.processor ≤ w.processor
  pub apart : v.processor ≡ w.processor → v.end ≤ w.begin

-- every window may stand after each one before it, so none overlaps another on its processor
abbrev pub InOrder : List Window → Type 0
InOrder ws = (i j : ℕ) (v : Window) → i < j → j < length ws → Follows (slice_index_or ws i v) (slice_index_or ws j v)

-- a problem within its limits
pub record Within (m : Model) : Type 0 where
  pub dimensions : DimensionsFit m.dimensions
  pub task_count : length m.tasks ≡ m.dimensions.tasks
  pub window_count : length m.windows ≤ 64
  pub dependency_count : length m.dependencies ≤ 256
  pub exclusion_count : length m.exclusions ≤ 128
  pub tasks : AllByRecursion (TaskFits m.dimensions) m.tasks
  pub windows : AllByRecursion (WindowFits m.dimensions) m.windows
  pub dependencies : AllByRecursion (DependencyFits m.dimensions) m.dependencies
  pub exclusions : AllByRecursion (ExclusionFits m.dimensions) m.exclusions
  pub order : InOrder m.windows
