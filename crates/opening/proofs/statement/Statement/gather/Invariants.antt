use Rattle.opening.specs.Statement.{said}
use Rattle.opening.proofs.Gathered.{Gathered}
use Rattle.opening.proofs.statement.Statement.gather.Given as goal

abbrev pub invariant-loop-record : goal.invariant-loop-record
invariant-loop-record l = Gathered l.file.header.counts l.file.bytes.now l.record-iterator (said l.statement)
