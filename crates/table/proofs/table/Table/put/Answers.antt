use Rattle.std.proofs.Common.{◌≡◌, set, Some, ap, ◌∙◌, subst, rules}
use Rattle.table.specs.Row.{row_model}
use Rattle.table.specs.Rows.{RowModel}
use Rattle.table.specs.Shape.{LawfulShape}
use Rattle.table.specs.Stored.{stored_row}
use Rattle.table.specs.Table.{rows_of}
use Rattle.table.proofs.Slots.{slots_set, slots_shaped}
use Rattle.table.proofs.table.Table.put.Goals as goal

pub invariant_of-self : goal.invariant_of-self
invariant_of-self c =
    let is : stored_row c.in_ok-stored.stored ≡ row_model c.args.row = search rules in
    let lawful : LawfulShape c.args.self.now.problem.dimensions (row_model c.args.row) = search rules in
    record { shaped = ∣ slots_shaped c.args.self.now c.args.task (Some c.in_ok-stored.stored) (λ row e. subst (λ (x : RowModel). LawfulShape c.args.self.now.problem.dimensions x) (cc) lawful) ∣₁ }

pub returns-clause-rows : goal.returns-clause-rows
returns-clause-rows c =
    let is : stored_row c.in_ok-stored.stored ≡ row_model c.args.row = search rules in
    (search rules, slots_set c.args.self.now.rows.items c.args.task (Some c.in_ok-stored.stored) ∙ ap (λ (x : RowModel). set (rows_of c.args.self.now) c.args.task (Some x)) is)
