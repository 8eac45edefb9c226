use Rattle.std.specs.Prelude.{ℕ, ◌+◌, ◌*◌, if◌then◌else◌, List, [], ◌∷◌, Some, None, Option, ◌==◌, nat_lt}
use Rattle.std.specs.Option.{option_map}
use Rattle.words.specs.Words.{word_at}
use Rattle.problem.specs.declared.dependency.Dependency.{Dependency}
use Rattle.problem.specs.declared.exclusion.Exclusion.{Exclusion}
use Rattle.problem.specs.declared.task.Task.{Task}
use Rattle.problem.specs.declared.window.Window.{Window}
use Rattle.problem_file.specs.declared.counts.Counts.{Counts}
use Rattle.problem_file.specs.declared.layout.Section.{Section}
use Rattle.problem_file.specs.declared.layout.Section.TheVariants.{Tasks, Windows, Dependencies, Exclusions}
use Rattle.problem_file.specs.declared.record.Item.{Item}
use Rattle.problem_file.specs.declared.record.Item.TheVariants.{Task as OfTask, Window as OfWindow, Dependency as OfDependency, Exclusion as OfExclusion}
use Rattle.problem_file.specs.declared.record.Record.{Record}
use Rattle.problem_file.specs.Layout.{bytes_in, section_of}

-- the deadline that a word states: the largest word stands for none
abbrev pub deadline_of : ℕ → Option ℕ
deadline_of word = (if word == 4294967295 then None else Some word)

-- the duration on processor `k` of `p`, and 0 past the last
abbrev pub duration_or : List ℕ → ℕ → ℕ → ℕ
duration_or bytes p k = (if nat_lt k p then word_at bytes (16 + 4 * k) else 0)

-- the task that the bytes state, for `p` processors
abbrev pub task_of : ℕ → List ℕ → Task
task_of p bytes = record {
  partition = word_at bytes 0;
  whole = (word_at bytes 4 == 1);
  release = word_at bytes 8;
  deadline = deadline_of (word_at bytes 12);
  durations = duration_or bytes p 0 ∷ duration_or bytes p 1 ∷ duration_or bytes p 2 ∷ duration_or bytes p 3 ∷ [];
}

-- the window that the bytes state
abbrev pub window_of : List ℕ → Window
window_of bytes = record { processor = word_at bytes 0; partition = word_at bytes 4; begin = word_at bytes 8; end = word_at bytes 12 }

-- the dependency that the bytes state
abbrev pub dependency_of : List ℕ → Dependency
dependency_of bytes = record { source = word_at bytes 0; destination = word_at bytes 4; depth = word_at bytes 8; transfer = word_at bytes 12 }

-- the exclusion that the bytes state
abbrev pub exclusion_of : List ℕ → Exclusion
exclusion_of bytes = record { first = word_at bytes 0; second = word_at bytes 4; distance = word_at bytes 8 }

-- a record as the reader shows it: what it says, and the bytes that it is made of
pub record Shown : Type 0 where
  pub item : Item
  pub bytes : List ℕ

-- what the code's record shows
abbrev pub shown : Record → Shown
shown r = record { item = r.item; bytes = r.bytes.now }

-- what the bytes say as a record of a section
abbrev pub item_of : ℕ → Section → List ℕ → Item
item_of p Tasks bytes = OfTask (task_of p bytes)
item_of p Windows bytes = OfWindow (window_of bytes)
item_of p Dependencies bytes = OfDependency (dependency_of bytes)
item_of p Exclusions bytes = OfExclusion (exclusion_of bytes)

-- the record of a section that the bytes are
abbrev pub reading : ℕ → Section → List ℕ → Shown
reading p s bytes = record { item = item_of p s bytes; bytes = bytes }

-- record `i` of the file, where it stands in a section and all its bytes are there
abbrev pub record_of : Counts → List ℕ → ℕ → Option Section → Option Shown
record_of c file i None = None
record_of c file i (Some s) = option_map (reading c.dimensions.processors s) (bytes_in c file s i)

-- record `i` of the file, counted from 0 through all sections
abbrev pub record_in : Counts → List ℕ → ℕ → Option Shown
record_in c file i = record_of c file i (section_of c i)
