use Rattle.std.proofs.Common.{◌≡◌, rules, sym, ap, ◌∙◌}
use Rattle.std.specs.Option.{option_map}
use Rattle.problem_file.specs.Layout.{total}
use Rattle.opening.specs.declared.fault.ProblemFault.TheVariants.{Field}
use Rattle.opening.specs.Opened.{lowest, misfit}
use Rattle.opening.proofs.Walks.{position_is_lowest}
use Rattle.opening.proofs.fields.check_fields.Goals as goal
use Rattle.opening.proofs.fields.check_fields.Goals.{After-position-first_misfit}

-- the position that is found is the lowest
found : (c : After-position-first_misfit) → c.position-first_misfit.result ≡ lowest (misfit c.args.file.header.counts c.args.file.bytes.now) (total c.args.file.header.counts)
found c =
    position_is_lowest _ _ c.args.file.bytes c.args.file.header c.records.result c.position-first_misfit.new.self c.position-first_misfit.result c.args.file.whole c.records.ensures (λ x b h call. search rules) c.position-first_misfit.ensures.ran

pub returns-in-Some : goal.returns-in-Some
returns-in-Some c = ap (option_map Field) (sym c.in-Some.is ∙ found (goal.at.returns-in-Some c).After-position-first_misfit)

pub returns-in-None : goal.returns-in-None
returns-in-None c = ap (option_map Field) (sym c.in-None.is ∙ found (goal.at.returns-in-None c).After-position-first_misfit)
