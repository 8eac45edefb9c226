use Rattle.table.specs.Table.{problem_of}
use Rattle.overlap_rule.proofs.OfOverlaps.{below, named}
use Rattle.overlap_rule.proofs.overlaps.OverlapsRule.judge.Goals as goal

pub returns-in-Some : goal.returns-in-Some
returns-in-Some c =
    let p = problem_of c.args.table.now in
    let h = below p c.args.place c.tasks.result c.tasks.ensures.value c.if-i-j.false in
    let is = named p c.args.place c.tasks.result c.tasks.ensures.value h in
    let broken = c.in-Some.ensures.broken in
    (broken.0, λ kept. broken.1 (rw (is.0, is.1) (kept h (rw (is.0, is.1) at c.if-i-j.false))))

pub returns-in-None : goal.returns-in-None
returns-in-None c n h two =
    let is = named (problem_of c.args.table.now) c.args.place c.tasks.result c.tasks.ensures.value h in rw (is.0, is.1) at (c.in-None.ensures n)
