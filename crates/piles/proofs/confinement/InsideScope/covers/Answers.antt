use Rattle.std.proofs.Common.{ℕ, List, ◌↔◌, IsTrue, subst, rules}
use borrow.Author.Tests.{tests}
use Rattle.std.proofs.lemmas.Iterator.{cases_from_all, YieldsList-from_slice}
use Rattle.problem.specs.Model.{model}
use Rattle.problem.proofs.Known.{knows}
use Rattle.piles.specs.Confinement.{AllIn}
use Rattle.piles.proofs.Inside.{InIt, NotInIt, all_in}
use Rattle.piles.proofs.confinement.InsideScope.covers.Goals as goal

pub returns : goal.returns
returns g c =
    let p = model c.args.problem.now in
    let inside = c.args.self.now.partition in
    let tasks = c.tasks-tasks.result in
    subst (λ (named : List ℕ). IsTrue c.all.result ↔ AllIn inside p named) c.tasks-tasks.ensures.value
    (all_in inside p tasks (knows c.args.problem.now) c.tasks-tasks.ensures.known c.all.result
    (cases_from_all _ _ _ (InIt inside p) (NotInIt inside p) c.all.ensures.ran (YieldsList-from_slice tasks cc) (λ x q k. search (rules, tests)) (λ x q k. search (rules, tests))))
