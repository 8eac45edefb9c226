use Rattle.std.specs.Prelude.{ℕ, ◌+◌, Bool, if◌then◌else◌, List, [], ◌∷◌, ◌++◌, length, take, Some, None, Option}
use Rattle.std.specs.List.{flat_map}
use Rattle.words.specs.Words.{encoded}
use Rattle.problem.specs.declared.dependency.Dependency.{Dependency}
use Rattle.problem.specs.declared.exclusion.Exclusion.{Exclusion}
use Rattle.problem.specs.declared.task.Task.{Task}
use Rattle.problem.specs.declared.window.Window.{Window}
use Rattle.problem.specs.Limits.{Model}

-- the mark of a task that may not be preempted is 1, of another 0
abbrev pub mark : Bool → ℕ
mark whole = (if whole then 1 else 0)

-- the word of a deadline: the largest word where there is none
abbrev pub deadline_word : Option ℕ → ℕ
deadline_word None = 4294967295
deadline_word (Some date) = date

-- a task's words: its fields in their order, and its duration on each processor
abbrev pub task_words : ℕ → Task → List ℕ
task_words processors t = t.partition ∷ mark t.whole ∷ t.release ∷ deadline_word t.deadline ∷ take processors t.durations

-- a window's words: its fields in their order
abbrev pub window_words : Window → List ℕ
window_words w = w.processor ∷ w.partition ∷ w.begin ∷ w.end ∷ []

-- a dependency's words: its fields in their order
abbrev pub dependency_words : Dependency → List ℕ
dependency_words x = x.source ∷ x.destination ∷ x.depth ∷ x.transfer ∷ []

-- an exclusion's words: its fields in their order
abbrev pub exclusion_words : Exclusion → List ℕ
exclusion_words x = x.first ∷ x.second ∷ x.distance ∷ []

-- the tasks one after the other
unfoldable pub task_bytes : Model → List ℕ
task_bytes m = flat_map (λ t. encoded (task_words m.dimensions.processors t)) m.tasks

-- the windows one after the other
unfoldable pub window_bytes : Model → List ℕ
window_bytes m = flat_map (λ w. encoded (window_words w)) m.windows

-- the dependencies one after the other
unfoldable pub dependency_bytes : Model → List ℕ
dependency_bytes m = flat_map (λ x. encoded (dependency_words x)) m.dependencies

-- the exclusions one after the other
unfoldable pub exclusion_bytes : Model → List ℕ
exclusion_bytes m = flat_map (λ x. encoded (exclusion_words x)) m.exclusions

-- the header's words: the kind, the dimensions, the counts, and the byte at which each section begins
abbrev pub header_words : Model → List ℕ
header_words m =
    1 ∷ m.dimensions.frame ∷ m.dimensions.processors ∷ m.dimensions.partitions
    ∷ length m.tasks ∷ length m.windows ∷ length m.dependencies ∷ length m.exclusions
    ∷ 48
    ∷ (48 + length (task_bytes m))
    ∷ (48 + length (task_bytes m) + length (window_bytes m))
    ∷ (48 + length (task_bytes m) + length (window_bytes m) + length (dependency_bytes m))
    ∷ []

-- the file of a problem: its header, then its tasks, windows, dependencies and exclusions
unfoldable pub encode : Model → List ℕ
encode m = encoded (header_words m) ++ (task_bytes m ++ (window_bytes m ++ (dependency_bytes m ++ exclusion_bytes m)))
