use Rattle.std.specs.Prelude.{ℕ, List, Some, None, codes}
use Rattle.problem_file.specs.declared.fault.FileFault.TheVariants.{Kind, Count, Layout}
use Rattle.opening.specs.declared.fault.Fault.{Fault}
use Rattle.opening.specs.declared.fault.Fault.TheVariants.{File as OfFile, Problem as OfProblem}
use Rattle.opening.specs.declared.fault.ProblemFault.TheVariants.{Field, Order}
use Rattle.report.specs.declared.refusal.Layer.{Layer}
use Rattle.report.specs.declared.refusal.Layer.TheVariants.{File, Problem}
use Rattle.report.specs.declared.refusal.Refusal.{Refusal}

-- the letter of a layer
abbrev pub letter : Layer → List ℕ
letter File = codes "F"
letter Problem = codes "P"

-- a fault of a file's form has no position
abbrev pub of_file : ℕ → Refusal
of_file n = record { number = n; layer = File; position = None; label = None }

-- a fault of a problem has the position of a record
abbrev pub of_record : ℕ → ℕ → Refusal
of_record n i = record { number = n; layer = Problem; position = Some i; label = None }

-- each fault with its number, layer, position and label
abbrev pub refusal_of : Fault → Refusal
refusal_of (OfFile Kind) = of_file 1
refusal_of (OfFile Count) = of_file 2
refusal_of (OfFile Layout) = of_file 3
refusal_of (OfProblem (Field i)) = of_record 4 i
refusal_of (OfProblem (Order i)) = of_record 5 i
