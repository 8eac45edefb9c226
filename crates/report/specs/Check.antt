use Rattle.std.specs.Prelude.{length, Ok, Err, Result}
use Rattle.std.specs.declared.alloc.AllocError.{AllocError}
use Rattle.problem.specs.declared.problem.Problem.{Problem}
use Rattle.problem.specs.Limits.{Model}
use Rattle.problem.specs.Model.{model}
use Rattle.opening.specs.declared.fault.Fault.{Fault}
use Rattle.opening.specs.declared.fault.OpenError.{OpenError}
use Rattle.opening.specs.declared.fault.OpenError.TheVariants.{Refused as RefusedBy, Memory}
use Rattle.report.specs.declared.verdict.Verdict.{Verdict}
use Rattle.report.specs.declared.verdict.Verdict.TheVariants.{Accepted, Refused}
use Rattle.report.specs.Refusals.{refusal_of}

-- the verdict on an outcome of opening: as yet no rows are read
abbrev pub verdict_of : Result Model Fault → Verdict
verdict_of (Ok m) = Accepted 0 (length m.tasks)
verdict_of (Err fault) = Refused (refusal_of fault)

-- the verdict on what opening answered: an error exactly where it found no memory, and then that error
abbrev pub verdict_on : Result Problem OpenError → Result Verdict AllocError
verdict_on (Ok p) = Ok (verdict_of (Ok (model p)))
verdict_on (Err (RefusedBy fault)) = Ok (verdict_of (Err fault))
verdict_on (Err (Memory error)) = Err error
