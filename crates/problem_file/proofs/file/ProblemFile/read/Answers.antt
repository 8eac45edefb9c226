use Rattle.problem_file.proofs.Headers.{formed}
use Rattle.problem_file.proofs.file.ProblemFile.read.Goals as goal

pub invariant_of-result : goal.invariant_of-result
invariant_of-result c = record { whole = (formed c.args.bytes.now c.in_ok-header.header.counts c.in_ok-header.ensures).ends }
