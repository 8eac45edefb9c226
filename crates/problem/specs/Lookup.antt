use Rattle.std.specs.Prelude.{ℕ, false, if◌then◌else◌, [], ◌∷◌, length, Some, None, Option, nat_lt, slice_index, slice_index_or}
use Rattle.problem.specs.declared.dependency.Dependency.{Dependency}
use Rattle.problem.specs.declared.exclusion.Exclusion.{Exclusion}
use Rattle.problem.specs.declared.task.Task.{Task}
use Rattle.problem.specs.declared.window.Window.{Window}
use Rattle.problem.specs.Limits.{Model}

-- stands for no task where a problem has none
abbrev pub no_task : Task
no_task = record { partition = 0; whole = false; release = 0; deadline = None; durations = 0 ∷ 0 ∷ 0 ∷ 0 ∷ [] }

-- stands for no window where a problem has none
abbrev pub no_window : Window
no_window = record { processor = 0; partition = 0; begin = 0; end = 0 }

-- stands for no dependency where a problem has none
abbrev pub no_dependency : Dependency
no_dependency = record { source = 0; destination = 0; depth = 0; transfer = 0 }

-- stands for no exclusion where a problem has none
abbrev pub no_exclusion : Exclusion
no_exclusion = record { first = 0; second = 0; distance = 0 }

-- task `t` of the problem
abbrev pub task_at : Model → ℕ → Task
task_at p t = slice_index_or p.tasks t no_task

-- task `t` of the problem, if it has one
abbrev pub task_in : Model → ℕ → Option Task
task_in p t = (if nat_lt t (length p.tasks) then Some (task_at p t) else None)

-- the task's duration on a processor, and 0 past the last
abbrev pub duration_on : Task → ℕ → ℕ
duration_on task processor = slice_index task.durations processor

-- dependency `d` of the problem
abbrev pub dependency_at : Model → ℕ → Dependency
dependency_at p d = slice_index_or p.dependencies d no_dependency

-- dependency `d` of the problem, if it has one
abbrev pub dependency_in : Model → ℕ → Option Dependency
dependency_in p d = (if nat_lt d (length p.dependencies) then Some (dependency_at p d) else None)
