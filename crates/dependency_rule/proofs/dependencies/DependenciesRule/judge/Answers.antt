use Rattle.std.proofs.Common.{sym}
use Rattle.std.proofs.lemmas.Bool.Decides.{not_from_Decides}
use Rattle.table.specs.Row.{row_model}
use Rattle.dependency_rule.proofs.dependencies.DependenciesRule.judge.Goals as goal

pub returns-in-Some : goal.returns-in-Some
returns-in-Some c =
    let t = c.args.table.now in
    let link = c.in-Some.link in
    let at = c.in-Some.ensures in
    (0, λ kept. not_from_Decides c.in_order.result (c.in_order.ensures 0) c.if-not-in_order.true (rw (sym at.dependency) at (kept at.known (row_model link.from) (row_model link.to) at.from at.to)))
