use Rattle.std.proofs.Common.{rules}
use Rattle.std.proofs.lemmas.Iterator.{first_from_Range}
use borrow.Author.Tests.{tests}
use Rattle.table.proofs.Known.{knows}
use Rattle.table.specs.Table.{problem_of, rows_of}
use Rattle.rules.specs.Judged.{Keeps, Breaks}
use Rattle.rules.specs.Search.{Found}
use Rattle.rules.proofs.Theory.{found_first, found_lasting}
use Rattle.rules.proofs.search.first_broken.Goals as goal

pub returns : goal.returns
returns g c =
    let m = g.R.Rule.meaning c.args.book.now in
    let p = problem_of c.args.table.now in
    let rows = rows_of c.args.table.now in
    let first = first_from_Range _ _ _ c.find.result (Breaks m p rows) (Keeps m p rows) c.find.ensures.ran (λ x q k. search (rules, tests)) (λ x q k. search (rules, tests)) in
    let found : Found m p rows c.find.result = found_first m p rows c.count.result c.count.ensures.value (knows c.args.table.now) c.find.result first in
    record { found = found; lasting = found_lasting m p rows (g.met.R.Rule.reach c.args.book.now) (g.met.R.Rule.absence c.args.book.now) c.find.result found }
