use Rattle.std.proofs.Common.{sym, refl, ap, ◌∙◌, subst, rules}
use Rattle.problem.specs.Model.{model}
use Rattle.problem.proofs.Known.{knows}
use Rattle.table.specs.Rows.{Rows}
use Rattle.table.specs.Shape.{Shaped}
use Rattle.table.specs.Stored.{stored_rows}
use Rattle.table.proofs.Shapes.{shaped_none}
use Rattle.table.proofs.Slots.{slots_none}
use Rattle.table.proofs.table.Table.empty.Goals as goal

pub invariant_of-result : goal.invariant_of-result
invariant_of-result c =
    let e = c.in_ok-rows.ensures.items_if_clones_equal (λ y h. search rules) in
    let p = model c.args.problem in
    record { shaped = ∣ subst (λ (rows : Rows). Shaped p rows) (sym (ap stored_rows e ∙ slots_none p.dimensions.tasks)) (shaped_none p (knows c.args.problem)) ∣₁ }

pub returns : goal.returns
returns c =
    let e = c.in_ok-rows.ensures.items_if_clones_equal (λ y h. search rules) in
    (refl, ap stored_rows e ∙ slots_none c.args.problem.dimensions.tasks)
