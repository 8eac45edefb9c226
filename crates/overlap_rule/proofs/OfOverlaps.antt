-- How the places of the rule on overlaps are judged.
use Rattle.std.proofs.Common.{◌≡◌, ℕ, ◌/◌, ◌%◌, ◌<◌, List, get_or, Some, None, Option, sym, ap, ◌∙◌, subst, inl, inr, arith}
use Rattle.std.proofs.lemmas.Bool.{cases_lt}
use Rattle.problem.specs.Limits.{Model}
use Rattle.table.specs.Rows.{RowModel, Rows, row_at}
use Rattle.table.specs.Shape.{LawfulShape}
use Rattle.rules.specs.Meaning.{tasks_of}
use Rattle.rules.proofs.Named.{tasks_below, tasks_past}
use Rattle.overlap_rule.specs.declared.overlap.Overlap.{Overlap}
use Rattle.overlap_rule.specs.Overlaps.{ApartIn, overlap_rule}
use Rattle.overlap_rule.specs.Search.{FoundBetween, FoundOverlap}
use Rattle.overlap_rule.proofs.Apart.{overlap_broken}

module _ (p : Model) (k : ℕ) (tasks : List ℕ) (is : tasks ≡ tasks_of overlap_rule p k) where
  -- the tasks that a place below the count names
  pub named : k < overlap_rule.count p → (get_or tasks 0 0 ≡ k / p.dimensions.tasks) × (get_or tasks 1 0 ≡ k % p.dimensions.tasks)
  named h =
      let those = is ∙ tasks_below overlap_rule p k h in
      (ap (λ (ts : List ℕ). get_or ts 0 0) those, ap (λ (ts : List ℕ). get_or ts 1 0) those)

  -- a place that names two tasks is below the count
  pub below : get_or tasks 0 0 < get_or tasks 1 0 → k < overlap_rule.count p
  below two =
      elim (cases_lt k (overlap_rule.count p)) [
        | inl h ↦ h
        | inr h ↦ let past = is ∙ tasks_past overlap_rule p k h in absurd (omega (arith, ap (λ (ts : List ℕ). get_or ts 0 0) past, ap (λ (ts : List ℕ). get_or ts 1 0) past))
      ]

-- what is found between two tasks' rows on one processor is what is found of the tasks
pub found_overlap : (p : Model) (i j : ℕ) (rows : Rows) (a b : RowModel) → LawfulShape p.dimensions a → LawfulShape p.dimensions b →
    Some a ≡ row_at rows i → Some b ≡ row_at rows j → a.processor ≡ b.processor → (found : Option Overlap) → FoundBetween p i j a b found → FoundOverlap p i j rows found
found_overlap p i j rows a b oka okb ea eb one None apart = λ n x y ex ey same.
    let first : a ≡ x = cc in
    let second : b ≡ y = cc in
    subst (λ (z : RowModel). ApartIn p i j z y n) first (subst (λ (z : RowModel). ApartIn p i j a z n) second (apart n))
found_overlap p i j rows a b oka okb ea eb one (Some o) first = record {
  a = a;
  b = b;
  a_is = sym ea;
  b_is = sym eb;
  one_processor = one;
  first = first;
  broken = (3, λ kept. overlap_broken p i j a b oka okb o.distance first.low o.first o.second first.first first.second first.shared first.unexcused (kept a b (sym ea) (sym eb) one));
}
