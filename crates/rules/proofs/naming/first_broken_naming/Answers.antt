use Rattle.std.proofs.Common.{rules}
use Rattle.std.proofs.lemmas.Iterator.{first_from_Range}
use borrow.Author.Tests.{tests}
use Rattle.table.proofs.Known.{knows}
use Rattle.table.specs.Table.{problem_of, rows_of}
use Rattle.rules.specs.Search.{BrokenNaming, KeptNaming, FoundNaming}
use Rattle.rules.proofs.Theory.{found_naming, found_after_change}
use Rattle.rules.proofs.naming.first_broken_naming.Goals as goal

pub returns : goal.returns
returns g c =
    let m = g.R.Rule.meaning c.args.book.now in
    let t = c.args.table.now in
    let p = problem_of t in
    let first = first_from_Range _ _ _ c.find.result (BrokenNaming m p (rows_of t) c.args.first c.args.second) (KeptNaming m p (rows_of t) c.args.first c.args.second) c.find.ensures.ran
    (λ x q k. search (rules, tests)) (λ x q k. search (rules, tests)) in
    let found : FoundNaming m p (rows_of t) c.args.first c.args.second c.find.result = found_naming m p (rows_of t) c.count.result c.count.ensures.value c.args.first c.args.second c.find.result first in
    record {
      found = found;
      whole = λ before l differ. found_after_change m p c.args.first c.args.second before (rows_of t) (g.met.R.Rule.reach c.args.book.now) l (knows t) differ c.find.result found;
    }
