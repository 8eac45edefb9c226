use Rattle.std.specs.Prelude.{◌≡◌, ℕ, ◌+◌, ◌*◌, ◌≤◌, Contains}
use Rattle.problem.specs.declared.task.Task.{Task}
use Rattle.problem.specs.declared.window.Window.{Window}
use Rattle.problem.specs.Limits.{Model}
use Rattle.rules.specs.EachTask.{of_each_task}
use Rattle.rules.specs.Meaning.{Meaning}
use Rattle.table.specs.declared.part.Part.{Part}
use Rattle.table.specs.Rows.{RowModel}

-- the part of instance `n` lies inside the window as it is repeated in some frame `k`
abbrev pub Inside : ℕ → Part → ℕ → Window → Type 0
Inside frame part n w = (k : ℕ) × (w.begin + k * frame ≤ part.begin + n * frame) × (part.end + n * frame ≤ w.end + k * frame)

-- the part of instance `n` lies inside one window of the partition on the processor
abbrev pub Served : Model → ℕ → ℕ → ℕ → Part → Type 0
Served p partition processor n part =
    (w : Window) × Contains p.windows w × (w.partition ≡ partition) × (w.processor ≡ processor) × Inside p.dimensions.frame part n w

-- window: in frame `n` each part of instance `n` lies inside one window of the task's partition on the row's processor, repeated each frame
abbrev pub InWindows : Model → Task → RowModel → ℕ → Type 0
InWindows p task row n = (part : Part) → Contains row.parts part → Served p task.partition row.processor n part

-- rule 4, window
abbrev pub window_rule : Meaning
window_rule = of_each_task 4 InWindows
