use Rattle.std.proofs.Common.{◌≡◌, Ok, rules, arith}
use Rattle.opening.specs.Opened.{opened}
use Rattle.opening.specs.Statement.{said}
use Rattle.opening.proofs.Opening.{encodes, opens, holds}
use Rattle.opening.proofs.open.Goals as goal

pub into_problem-requires : goal.into_problem-requires
into_problem-requires c =
    let o : opened c.args.file.now ≡ Ok (said c.in_ok-gather.field-0) = search rules in
    (encodes c.args.file.now (said c.in_ok-gather.field-0) (λ k. omega (arith, c.type_inv.file k)) o).within

pub returns-in_err-file-clause-encodings : goal.returns-in_err-file-clause-encodings
returns-in_err-file-clause-encodings c =
    opens c.args.file.now c.from_residual.result (λ k. omega (arith, c.type_inv.file k)) (search rules)

pub returns-in_err-check_records-clause-encodings : goal.returns-in_err-check_records-clause-encodings
returns-in_err-check_records-clause-encodings c =
    opens c.args.file.now c.from_residual-in_err-check_records.result (λ k. omega (arith, c.type_inv.file k)) (search rules)

pub returns-in_err-gather-clause-encodings : goal.returns-in_err-gather-clause-encodings
returns-in_err-gather-clause-encodings c =
    opens c.args.file.now c.from_residual-in_err-gather.result (λ k. omega (arith, c.type_inv.file k)) (search rules)

pub returns-clause-encodings : goal.returns-clause-encodings
returns-clause-encodings c =
    opens c.args.file.now (Ok c.into_problem.result) (λ k. omega (arith, c.type_inv.file k)) (search rules)

pub returns-clause-records : goal.returns-clause-records
returns-clause-records c = holds c.args.file.now (Ok c.into_problem.result) (search rules)
