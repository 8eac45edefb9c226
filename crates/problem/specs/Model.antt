use Rattle.std.specs.Prelude.{vec_items}
use Rattle.problem.specs.declared.problem.Problem.{Problem}
use Rattle.problem.specs.Limits.{Model}

-- what the problem that the code holds says
abbrev pub model : Problem → Model
model p = record {
  dimensions = p.dimensions;
  tasks = vec_items p.tasks;
  windows = vec_items p.windows;
  dependencies = vec_items p.dependencies;
  exclusions = vec_items p.exclusions;
}
