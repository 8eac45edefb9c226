use Rattle.opening.proofs.Ordered.{Ordered}
use Rattle.opening.proofs.order.check_order.Given as goal

abbrev pub invariant-loop-number : goal.invariant-loop-number
invariant-loop-number l = Ordered l.fn.file.header.counts l.fn.file.bytes.now l.number-iterator.iter l.number-iterator.count l.before
