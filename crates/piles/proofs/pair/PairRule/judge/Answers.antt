use Rattle.table.specs.Table.{problem_of, rows_of}
use Rattle.piles.specs.declared.pair.Side.TheVariants.{First, Second}
use Rattle.piles.proofs.Paired.{judged_side}
use Rattle.piles.proofs.pair.PairRule.judge.Goals as goal

pub returns-in-Some-First : goal.returns-in-Some-First
returns-in-Some-First g c =
    let s = c.args.self.now in
    let t = c.args.table.now in
    judged_side (g.A.Rule.meaning s.first) (g.B.Rule.meaning s.second) (problem_of t) (rows_of t) c.args.place (First c.in-Some-First.place) (rw c.in-Some-First.field-0-is at c.in-Some-First.ensures) c.judge.result c.judge.ensures

pub returns-in-Some-Second : goal.returns-in-Some-Second
returns-in-Some-Second g c =
    let s = c.args.self.now in
    let t = c.args.table.now in
    judged_side (g.A.Rule.meaning s.first) (g.B.Rule.meaning s.second) (problem_of t) (rows_of t) c.args.place (Second c.in-Some-Second.place) (rw c.in-Some-Second.field-0-is at c.in-Some-Second.ensures) c.judge-in-Some-Second.result c.judge-in-Some-Second.ensures
