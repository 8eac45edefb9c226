use Rattle.std.proofs.Common.{◌∙◌}
use Rattle.opening.specs.Statement.{said}
use Rattle.opening.proofs.Gathered.{gathered_none, gathered_more, gathered_all}
use Rattle.opening.proofs.statement.Statement.gather.Goals as goal

pub loop-record-init : goal.loop-record-init
loop-record-init c =
    gathered_none c.args.file.bytes c.args.file.header c.into_iter-record-iterator.result (said c.new-statement.result) (c.into_iter-record-iterator.ensures.into_iter_gives ∙ c.records-record-items.ensures) c.new-statement.ensures

pub loop-record-preserved : goal.loop-record-preserved
loop-record-preserved c =
    gathered_more c.args.file.header.counts c.args.file.bytes.now c.loop-record.record-iterator c.next.new.self (said c.loop-record.statement) (said c.push.new.self) c.in-Some.record c.loop-record.invariant c.in-Some.ensures.steps c.in_ok-push.ensures

pub returns : goal.returns
returns c =
    gathered_all c.args.file.header.counts c.args.file.bytes.now c.loop-record.record-iterator c.next.new.self (said c.loop-record.statement) c.args.file.whole c.loop-record.invariant c.in-None.ensures.steps
