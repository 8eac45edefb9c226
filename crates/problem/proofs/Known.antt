-- Whoever holds a problem knows that it is within its limits: the type keeps that fact in a form of which no two proofs differ, and here it comes out whole.
use Rattle.std.proofs.Common.{◌≡◌, ℕ, List, Some, None, Option}
use mathlib.Core.Logic.{∥∥₁_elim}
use denote.Struct.Props.{props}
use Rattle.std.specs.List.{AllByRecursion-prop}
use Rattle.problem.specs.declared.dependency.Dependency.{Dependency}
use Rattle.problem.specs.declared.dimensions.Dimensions.{Dimensions}
use Rattle.problem.specs.declared.exclusion.Exclusion.{Exclusion}
use Rattle.problem.specs.declared.problem.Problem.{Problem}
use Rattle.problem.specs.declared.task.Task.{Task}
use Rattle.problem.specs.declared.window.Window.{Window}
use Rattle.problem.specs.Limits.{DeadlineFits, DurationsFit, TaskFits, WindowFits, DependencyFits, ExclusionFits, Follows, Within, Model}
use Rattle.problem.specs.Model.{model}

pub same : {A : Type 0} (p q : A) → IsProp A → p ≡ q
same p q one = one p q

deadline_prop : (frame : ℕ) (o : Option ℕ) → IsProp (DeadlineFits frame o)
deadline_prop frame None = hlevel props
deadline_prop frame (Some date) = hlevel props

durations_prop : (d : Dimensions) (ds : List ℕ) → IsProp (DurationsFit d ds)
durations_prop d ds p q =
    λ i. record {
      places = same p.places q.places (hlevel props) i;
      given = same p.given q.given (hlevel props) i;
      unused = same p.unused q.unused (hlevel props) i;
    }

task_prop : (d : Dimensions) (t : Task) → IsProp (TaskFits d t)
task_prop d t p q =
    λ i. record {
      partition = same p.partition q.partition (hlevel props) i;
      release = same p.release q.release (hlevel props) i;
      deadline = same p.deadline q.deadline (deadline_prop d.frame t.deadline) i;
      durations = same p.durations q.durations (durations_prop d t.durations) i;
    }

window_prop : (d : Dimensions) (w : Window) → IsProp (WindowFits d w)
window_prop d w p q =
    λ i. record {
      processor = same p.processor q.processor (hlevel props) i;
      partition = same p.partition q.partition (hlevel props) i;
      some = same p.some q.some (hlevel props) i;
      end = same p.end q.end (hlevel props) i;
    }

dependency_prop : (d : Dimensions) (x : Dependency) → IsProp (DependencyFits d x)
dependency_prop d x p q =
    λ i. record {
      source = same p.source q.source (hlevel props) i;
      destination = same p.destination q.destination (hlevel props) i;
      depth = same p.depth q.depth (hlevel props) i;
      transfer = same p.transfer q.transfer (hlevel props) i;
    }

exclusion_prop : (d : Dimensions) (x : Exclusion) → IsProp (ExclusionFits d x)
exclusion_prop d x p q =
    λ i. record {
      first = same p.first q.first (hlevel props) i;
      second = same p.second q.second (hlevel props) i;
      two = same p.two q.two (hlevel props) i;
      distance = same p.distance q.distance (hlevel props) i;
    }

follows_prop : (v w : Window) → IsProp (Follows v w)
follows_prop v w p q =
    λ i. record {
      processors = same p.processors q.processors (hlevel props) i;
      apart = same p.apart q.apart (hlevel props) i;
    }

pub within_prop : (m : Model) → IsProp (Within m)
within_prop m p q =
    λ i. record {
      dimensions = same p.dimensions q.dimensions (hlevel props) i;
      task_count = same p.task_count q.task_count (hlevel props) i;
      window_count = same p.window_count q.window_count (hlevel props) i;
      dependency_count = same p.dependency_count q.dependency_count (hlevel props) i;
      exclusion_count = same p.exclusion_count q.exclusion_count (hlevel props) i;
      tasks = same p.tasks q.tasks (AllByRecursion-prop _ (task_prop m.dimensions) m.tasks) i;
      windows = same p.windows q.windows (AllByRecursion-prop _ (window_prop m.dimensions) m.windows) i;
      dependencies = same p.dependencies q.dependencies (AllByRecursion-prop _ (dependency_prop m.dimensions) m.dependencies) i;
      exclusions = same p.exclusions q.exclusions (AllByRecursion-prop _ (exclusion_prop m.dimensions) m.exclusions) i;
      order = same p.order q.order (hlevel (props, follows_prop)) i;
    }

pub knows : (p : Problem) → Within (model p)
knows p = ∥∥₁_elim p.within (within_prop (model p)) (λ w. w)
