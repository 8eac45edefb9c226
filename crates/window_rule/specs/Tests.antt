-- What the code tests of a part.
-- Nothing here has to be believed: it is proved that the tests say whether the part lies inside a repeated window, whichever instance it is of.
use Rattle.std.specs.Prelude.{ℕ, ◌+◌, ◌-◌, ◌%◌, Bool, ◌&&◌, ◌==◌, nat_le}
use Rattle.std.specs.List.{list_any}
use Rattle.problem.specs.declared.window.Window.{Window}
use Rattle.problem.specs.Limits.{Model}
use Rattle.table.specs.declared.part.Part.{Part}

-- the test of a window: it is of the partition on the processor, and the ticks from `begin` to `end` of a frame lie inside it
abbrev pub serves : ℕ → ℕ → ℕ → ℕ → Window → Bool
serves partition processor begin end w =
    (w.partition == partition) && ((w.processor == processor) && (nat_le w.begin begin && nat_le end w.end))

-- the test of a part: a window serves it where it lies in the frame in which it begins
abbrev pub served : Model → ℕ → ℕ → Part → Bool
served p partition processor part =
    let begin = part.begin % p.dimensions.frame in list_any (serves partition processor begin (begin + (part.end - part.begin))) p.windows
