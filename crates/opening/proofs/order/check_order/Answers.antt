use Rattle.std.proofs.Common.{◌≡◌, Some, None, sym, ap, ◌∙◌, arith}
use Rattle.opening.specs.declared.fault.ProblemFault.TheVariants.{Order}
use Rattle.opening.proofs.Ordered.{ordered_none, ordered_more, ordered_found, ordered_end}
use Rattle.opening.proofs.order.check_order.Goals as goal

pub loop-number-init : goal.loop-number-init
loop-number-init c =
    let is = ap (λ x. x.iter) c.into_iter-number-iterator.ensures.into_iter_gives ∙ c.enumerate-number-items.ensures.source ∙ c.records_from.ensures in
    let zero : c.into_iter-number-iterator.result.count ≡ 0 = cc in
    rw zero (ordered_none c.args.file.bytes c.args.file.header c.into_iter-number-iterator.result.iter is)

pub returns-in_default : goal.returns-in_default
returns-in_default c =
    let at = c.loop-number.number-iterator in
    ordered_end c.args.file.header.counts c.args.file.bytes.now at.iter c.next.new.self.iter at.count c.loop-number.before (Some c.in-Some.record) c.args.file.whole c.loop-number.invariant c.in-Some.ensures.steps.0 c.in_default.not-Window

pub returns-then-out_of_place : goal.returns-then-out_of_place
returns-then-out_of_place c =
    let at = c.loop-number.number-iterator in
    let found = ordered_found c.args.file.header.counts c.args.file.bytes.now at.iter c.next.new.self.iter at.count c.loop-number.before c.in-Some.record c.in-Window.window c.loop-number.invariant c.in-Some.ensures.steps.0 c.in-Window.is (sym c.out_of_place.ensures ∙ c.if-out_of_place.true) in
    ap (λ k. Some (Order k)) (omega (arith, c.first-first.ensures, c.in-Some.ensures.steps.1)) ∙ found

pub loop-number-preserved : goal.loop-number-preserved
loop-number-preserved c =
    let at = c.loop-number.number-iterator in
    let more = ordered_more c.args.file.header.counts c.args.file.bytes.now at.iter c.next.new.self.iter at.count c.loop-number.before c.in-Some.record c.in-Window.window c.loop-number.invariant c.in-Some.ensures.steps.0 c.in-Window.is (sym c.out_of_place.ensures ∙ c.if-out_of_place.false) in
    rw c.in-Some.ensures.steps.2 more

pub returns-in-None : goal.returns-in-None
returns-in-None c =
    let at = c.loop-number.number-iterator in
    ordered_end c.args.file.header.counts c.args.file.bytes.now at.iter c.next.new.self.iter at.count c.loop-number.before None c.args.file.whole c.loop-number.invariant c.in-None.ensures.steps.0 tt
