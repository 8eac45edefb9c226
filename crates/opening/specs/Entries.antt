use Rattle.std.specs.Prelude.{◌≡◌, ℕ, List, ◌++◌, map, Ok}
use Rattle.std.specs.List.{slice_get}
use Rattle.std.specs.Option.{option_map}
use Rattle.problem.specs.Limits.{Model}
use Rattle.problem_file.specs.declared.counts.Counts.{Counts}
use Rattle.problem_file.specs.declared.record.Item.{Item}
use Rattle.problem_file.specs.declared.record.Item.TheVariants.{Task as OfTask, Window as OfWindow, Dependency as OfDependency, Exclusion as OfExclusion}
use Rattle.problem_file.specs.Header.{header_of}
use Rattle.problem_file.specs.Records.{Shown, record_in}

-- a problem's records, counted through all its lists
abbrev pub entries : Model → List Item
entries m = map OfTask m.tasks ++ (map OfWindow m.windows ++ (map OfDependency m.dependencies ++ map OfExclusion m.exclusions))

-- what a record that the reader shows says
abbrev pub entry_of : Shown → Item
entry_of x = x.item

-- the problem holds exactly the records that the reader shows, in their order
abbrev pub HoldsShown : List ℕ → Model → Type 0
HoldsShown file m = (c : Counts) → header_of file ≡ Ok c → (i : ℕ) → option_map entry_of (record_in c file i) ≡ slice_get (entries m) i
