use Rattle.std.specs.Prelude.{◌≡◌, ℕ, ◌+◌, ◌*◌, ◌<◌, ◌≤◌, ◌⊎◌, Contains}
use Rattle.problem.specs.declared.exclusion.Exclusion.{Exclusion}
use Rattle.problem.specs.Limits.{Model}
use Rattle.table.specs.declared.part.Part.{Part}
use Rattle.table.specs.Rows.{RowModel}

-- the tick is in the part of instance `n`
abbrev pub InPart : ℕ → Part → ℕ → ℕ → Type 0
InPart frame part n tick = (part.begin + n * frame ≤ tick) × (tick < part.end + n * frame)

-- instance `n` of the row runs at the tick
abbrev pub RunsAt : ℕ → RowModel → ℕ → ℕ → Type 0
RunsAt frame row n tick = (part : Part) × Contains row.parts part × InPart frame part n tick

-- the exclusion of `x`, `y` and the distance is listed
abbrev pub Listed : Model → ℕ → ℕ → ℕ → Type 0
Listed p x y distance = (e : Exclusion) × Contains p.exclusions e × (e.first ≡ x) × (e.second ≡ y) × (e.distance ≡ distance)

-- an exclusion of the problem says that instance `n` of `x` and instance `m` of `y` never both run
abbrev pub Excludes : Model → ℕ → ℕ → ℕ → ℕ → Type 0
Excludes p x n y m = (distance : ℕ) × Listed p x y distance × (m ≡ n + distance)

-- the same, whichever of the two the exclusion names first
abbrev pub NeverBoth : Model → ℕ → ℕ → ℕ → ℕ → Type 0
NeverBoth p i n j m = Excludes p i n j m ⊎ Excludes p j m i n
