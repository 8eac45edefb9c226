use Rattle.std.proofs.Common.{◌≡◌, Bool, eqb, ◌&&◌, Contains, Decides, List, refl, subst}
use Rattle.std.proofs.lemmas.Bool.Decides.{Decides-and, Decides-eqb}
use Rattle.std.proofs.lemmas.List.Elements.{Decides-contains, contains_decides}
use Rattle.problem.specs.declared.exclusion.Exclusion.{Exclusion}
use Rattle.overlap_rule.proofs.exclusions.listed.Goals as goal

-- two exclusions are equal if all their fields are
abbrev equal : Exclusion → Exclusion → Bool
equal a b = eqb a.first b.first && (eqb a.second b.second && eqb a.distance b.distance)

same : (a b : Exclusion) → Decides (equal a b) (a ≡ b)
same a b =
    let d = Decides-and _ _ (Decides-eqb a.first b.first) (Decides-and _ _ (Decides-eqb a.second b.second) (Decides-eqb a.distance b.distance)) in
    (λ t. let e = d.0 t in λ i. record { first = e.0 i; second = e.1.0 i; distance = e.1.1 i }, λ e. d.1 (λ i. (e i).first, (λ i. (e i).second, λ i. (e i).distance)))

pub returns : goal.returns
returns c =
    let one : Exclusion = record { first = c.args.first; second = c.args.second; distance = c.args.distance } in
    let d = subst (λ (es : List Exclusion). Decides c.contains.result (Contains es one)) c.deref.ensures.value (Decides-contains _ _ _ (contains_decides equal same c.deref.result.now one c.contains.result c.contains.ensures.cases)) in
    (λ t. (one, d.0 t, refl, refl, refl), λ l. d.1 (subst (λ (e : Exclusion). Contains c.args.problem.now.exclusions.items e) (λ i. record { first = l.2 i; second = l.3 i; distance = l.4 i }) l.1))
