use Rattle.std.proofs.Common.{ℕ, eqb, List, Contains, Decides, subst, inl, inr}
use Rattle.std.proofs.lemmas.List.Elements.{Decides-contains, contains_decides}
use Rattle.std.proofs.lemmas.Bool.Decides.{not_from_Decides, Decides-eqb}
use Rattle.problem.specs.Model.{model}
use Rattle.rules.specs.Meaning.{tasks_of}
use Rattle.rules.proofs.naming.names_either.Goals as goal

pub returns-else-contains : goal.returns-else-contains
returns-else-contains g c =
    let named = tasks_of (g.R.Rule.meaning c.args.book.now) (model c.args.problem.now) c.args.place in
    let is = c.tasks-named.ensures.value in
    let first : Decides c.contains.result (Contains named c.args.first) =
    subst (λ (ts : List ℕ). Decides c.contains.result (Contains ts c.args.first)) is (Decides-contains _ _ _ (contains_decides eqb Decides-eqb c.tasks-named.result c.args.first c.contains.result c.contains.ensures.cases)) in
    let second : Decides c.contains-else-contains.result (Contains named c.args.second) =
    subst (λ (ts : List ℕ). Decides c.contains-else-contains.result (Contains ts c.args.second)) is (Decides-contains _ _ _ (contains_decides eqb Decides-eqb c.tasks-named.result c.args.second c.contains-else-contains.result c.contains-else-contains.ensures.cases)) in (
      λ yes'. inr (second.0 yes'),
      λ either. elim either [ inl h ↦ absurd (not_from_Decides c.contains.result first c.if-contains.false h) | inr h ↦ second.1 h ],
    )
