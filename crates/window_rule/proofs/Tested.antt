-- The test of a row's parts says whether each lies inside a repeated window, whichever instance it is of.
use Rattle.std.proofs.Common.{◌≡◌, ℕ, ◌+◌, ◌-◌, ◌%◌, ◌<◌, ◌≤◌, ◌↔◌, IsTrue, All, Contains, get_or, sym, refl, subst}
use Rattle.std.proofs.lemmas.Bool.{and_parts, and_from, eqb-true, eq-eqb, leb-true, le-leb}
use Rattle.std.proofs.lemmas.Bool.Decides.{Decides-by_or, Decides-by_and}
use Rattle.std.proofs.lemmas.List.Elements.{All-contains, All-from_get_or, All-from_recursion, Contains-get_or, at_from_Contains}
use Rattle.std.specs.List.{list_any, list_all}
use Rattle.problem.specs.declared.task.Task.{Task}
use Rattle.problem.specs.declared.window.Window.{Window}
use Rattle.problem.specs.Limits.{Model, Within, WindowFits}
use Rattle.problem.specs.Lookup.{no_window}
use Rattle.table.specs.declared.part.Part.{Part}
use Rattle.table.specs.Rows.{RowModel, no_part}
use Rattle.table.specs.Shape.{LawfulShape}
use Rattle.window_rule.specs.Tests.{serves, served}
use Rattle.window_rule.specs.Windows.{Inside, Served, InWindows}
use Rattle.window_rule.proofs.Repeated.{inside_from, inside_to}

module _ (p : Model) (within : Within p) (partition processor n : ℕ) where
  -- the test of one window
  serves_exactly :
      (part : Part) → part.begin < part.end → (w : Window) → w.end ≤ p.dimensions.frame → let begin = part.begin % p.dimensions.frame in
      IsTrue (serves partition processor begin (begin + (part.end - part.begin)) w) ↔ ((w.partition ≡ partition) × (w.processor ≡ processor) × Inside p.dimensions.frame part n w)
  serves_exactly part span w fits =
      let frame = p.dimensions.frame in let some : 1 ≤ frame = within.dimensions.0.0 in (
        λ t.
            let a = and_parts _ _ t in let b = and_parts _ _ a.1 in let d = and_parts _ _ b.1 in
            (eqb-true _ _ a.0, eqb-true _ _ b.0, inside_from frame part.begin part.end w.begin w.end some span fits (leb-true _ _ d.0) (leb-true _ _ d.1) n),
        λ s.
            let i = inside_to frame part.begin part.end w.begin w.end some span fits n s.2.0 s.2.1 s.2.2 in
            and_from _ _ (eq-eqb _ _ s.0) (and_from _ _ (eq-eqb _ _ s.1) (and_from _ _ (le-leb _ _ i.0) (le-leb _ _ i.1))),
      )

  -- the test of one part
  served_exactly : (part : Part) → part.begin < part.end → IsTrue (served p partition processor part) ↔ Served p partition processor n part
  served_exactly part span =
      let begin = part.begin % p.dimensions.frame in
      let test = serves partition processor begin (begin + (part.end - part.begin)) in
      let any = Decides-by_or test (λ (w : Window). IsTrue (test w)) (list_any test) (λ w. (λ t. t, λ t. t)) refl (λ _ _. refl) p.windows in
      let each = All-from_recursion (WindowFits p.dimensions) p.windows within.windows in
      let fits = λ (w : Window) (has : Contains p.windows w). (All-contains (WindowFits p.dimensions) p.windows w each has).end in (
        λ t.
            let f = any.0 t in
            let w = get_or p.windows f.0 no_window in
            let has = Contains-get_or p.windows f.0 no_window f.1 in
            let found = (serves_exactly part span w (fits w has)).0 (f.2 no_window) in
            (w, has, found.0, found.1, found.2),
        λ (w, has, partition_is, processor_is, inside).
            let at = at_from_Contains p.windows w has in
            any.1 (at.0, at.1, λ d. subst (λ (w : Window). IsTrue (test w)) (sym (at.2 d)) ((serves_exactly part span w (fits w has)).1 (partition_is, processor_is, inside))),
      )

-- the test of a row of lawful shape
pub tested :
    (p : Model) → Within p → (task : Task) (row : RowModel) → LawfulShape p.dimensions row → (n : ℕ) →
    IsTrue (list_all (served p task.partition row.processor) row.parts) ↔ InWindows p task row n
tested p within task row ok n =
    let test = served p task.partition row.processor in
    let all = Decides-by_and test (λ (part : Part). IsTrue (test part)) (list_all test) (λ part. (λ t. t, λ t. t)) refl (λ _ _. refl) row.parts in
    let spans : All (λ (x : Part). x.begin < x.end) row.parts = All-from_get_or (λ (x : Part). x.begin < x.end) row.parts no_part ok.turns.spans in
    let one = served_exactly p within task.partition row.processor n in (
      λ t part has.
          let span = All-contains (λ (x : Part). x.begin < x.end) row.parts part spans has in
          (one part span).0 (All-contains (λ (x : Part). IsTrue (test x)) row.parts part (all.0 t) has),
      λ each. all.1 (λ k d h. (one (get_or row.parts k d) (spans k d h)).1 (each (get_or row.parts k d) (Contains-get_or row.parts k d h))),
    )
