use Rattle.std.specs.Prelude.{◌≡◌, ℕ, true, List, is_ok, Ok, Err, Result}
use Rattle.problem.specs.declared.problem.Problem.{Problem}
use Rattle.problem.specs.Limits.{Model, Within}
use Rattle.problem.specs.Model.{model}
use Rattle.problem_file.specs.Encoding.{encode}
use Rattle.opening.specs.Entries.{HoldsShown}
use Rattle.opening.specs.declared.fault.Fault.{Fault}
use Rattle.opening.specs.declared.fault.OpenError.{OpenError}
use Rattle.opening.specs.declared.fault.OpenError.TheVariants.{Refused, Memory}

-- the call gives the one outcome; only a file that is to be granted can end for want of memory
abbrev pub Outcome : Result Model Fault → Result Problem OpenError → Type 0
Outcome o (Ok p) = o ≡ Ok (model p)
Outcome o (Err (Refused fault)) = o ≡ Err fault
Outcome o (Err (Memory error)) = is_ok o ≡ true

-- the bytes are the file of a problem within its limits
pub record Encodes (m : Model) (file : List ℕ) : Type 0 where
  pub within : Within m
  pub bytes : file ≡ encode m

-- a file opens exactly when it is the file of some problem within the limits, and of that problem
abbrev pub OpensEncodings : List ℕ → Result Problem OpenError → Type 0
OpensEncodings file (Ok p) = Encodes (model p) file × ((m : Model) → Encodes m file → m ≡ model p)
OpensEncodings file (Err (Refused fault)) = (m : Model) → ¬ (Encodes m file)
OpensEncodings file (Err (Memory error)) = (m : Model) × Encodes m file

-- a problem that is given holds exactly what the reader shows
abbrev pub HoldsRecords : List ℕ → Result Problem OpenError → Type 0
HoldsRecords file (Ok p) = HoldsShown file (model p)
HoldsRecords file (Err error) = Unit {0}
