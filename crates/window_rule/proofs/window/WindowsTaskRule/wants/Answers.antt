use Rattle.std.proofs.Common.{◌≡◌, ◌↔◌, IsTrue, Bool, sym, subst, rules}
use Rattle.std.proofs.lemmas.Iterator.{YieldsList-from_slice}
use Rattle.std.proofs.lemmas.Iterator.Search.{all_from_yields_List}
use borrow.Author.Tests.{tests}
use Rattle.std.specs.List.{list_all}
use Rattle.problem.specs.Model.{model}
use Rattle.problem.proofs.Known.{knows}
use Rattle.table.specs.Row.{row_model}
use Rattle.window_rule.specs.Tests.{served}
use Rattle.window_rule.specs.Windows.{InWindows}
use Rattle.window_rule.proofs.Tested.{tested}
use Rattle.window_rule.proofs.window.WindowsTaskRule.wants.Goals as goal

pub returns : goal.returns
returns c n =
    let x = c.args.placed.now in
    let p = model x.problem.now in
    let is : c.all.result ≡ list_all (served p x.task.partition x.row.processor) x.row.parts.now =
    all_from_yields_List (served p x.task.partition x.row.processor) _ _ c.all.result c.all.ensures.ran (YieldsList-from_slice x.row.parts.now (cc)) (λ y b q k. search (rules, tests)) in
    subst (λ (b : Bool). IsTrue b ↔ InWindows p x.task (row_model x.row) n) (sym is) (tested p (knows x.problem.now) x.task (row_model x.row) x.shape n)
