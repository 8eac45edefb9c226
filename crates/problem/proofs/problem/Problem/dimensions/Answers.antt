use Rattle.std.proofs.Common.{refl}
use Rattle.problem.proofs.Known.{knows}
use Rattle.problem.proofs.problem.Problem.dimensions.Goals as goal

pub returns : goal.returns
returns c = record { value = refl; within = knows c.args.self.now }
