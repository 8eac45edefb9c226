use Rattle.std.specs.Prelude.{[], ◌∷◌, ◌++◌, vec_items}
use Rattle.problem.specs.declared.dimensions.Dimensions.{Dimensions}
use Rattle.problem.specs.Limits.{Model}
use Rattle.problem_file.specs.declared.record.Item.{Item}
use Rattle.problem_file.specs.declared.record.Item.TheVariants.{Task, Window, Dependency, Exclusion}
use Rattle.opening.specs.declared.statement.Statement.{Statement}

-- what the code's statement says
abbrev pub said : Statement → Model
said s = record {
  dimensions = s.dimensions;
  tasks = vec_items s.tasks;
  windows = vec_items s.windows;
  dependencies = vec_items s.dependencies;
  exclusions = vec_items s.exclusions;
}

-- dimensions, and no records
abbrev pub bare : Dimensions → Model
bare d = record { dimensions = d; tasks = []; windows = []; dependencies = []; exclusions = [] }

-- a record more, at the end of the list of its kind
abbrev pub added : Model → Item → Model
added m (Task t) = record { dimensions = m.dimensions; tasks = m.tasks ++ t ∷ []; windows = m.windows; dependencies = m.dependencies; exclusions = m.exclusions }
added m (Window w) = record { dimensions = m.dimensions; tasks = m.tasks; windows = m.windows ++ w ∷ []; dependencies = m.dependencies; exclusions = m.exclusions }
added m (Dependency x) = record { dimensions = m.dimensions; tasks = m.tasks; windows = m.windows; dependencies = m.dependencies ++ x ∷ []; exclusions = m.exclusions }
added m (Exclusion x) = record { dimensions = m.dimensions; tasks = m.tasks; windows = m.windows; dependencies = m.dependencies; exclusions = m.exclusions ++ x ∷ [] }
