-- The published book's lawful tables are exactly the tables of lawful shape that meet the eight conditions.
use Rattle.std.proofs.Common.{◌≡◌, ℕ, ◌+◌, ◌*◌, ◌/◌, ◌%◌, ◌<◌, ◌≤◌, get_or, Contains, ◌∙◌, subst, arith}
use Rattle.std.proofs.lemmas.Nat.{div-mul-add, mod-mul-add, mul-add-lt, mul-le}
use Rattle.std.proofs.lemmas.List.{get_or_default}
use Rattle.std.proofs.lemmas.List.Elements.{Contains-get_or}
use Rattle.problem.specs.declared.dependency.Dependency.{Dependency}
use Rattle.problem.specs.Lookup.{no_dependency}
use Rattle.problem.specs.Limits.{Model, Within}
use Rattle.table.specs.Rows.{Rows}
use Rattle.table.specs.Shape.{Shaped}
use Rattle.table.proofs.Shapes.{row_number}
use Rattle.rules.specs.Lawful.{Lawful}
use Rattle.rules.specs.Meaning.{Meaning}
use Rattle.task_rules.specs.Meanings.{allocation_rule, duration_rule, whole_rule, release_rule, deadline_rule}
use Rattle.window_rule.specs.Windows.{window_rule}
use Rattle.dependency_rule.specs.Dependencies.{DependencyKept, dependency_rule}
use Rattle.overlap_rule.specs.Overlaps.{OverlapKept, overlap_rule}
use Rattle.published.specs.Book.{published_book, ◌then◌}
use Rattle.published.specs.Conditions.{Conditions, LawfulExactly}
use Rattle.published.proofs.Split.{KeepsAll, join, split_first, split_second}

module _ (p : Model) (rows : Rows) (s : Shaped p rows) where
  dependency_from : KeepsAll dependency_rule p rows → (x : Dependency) → Contains p.dependencies x → (n : ℕ) → DependencyKept p x rows n
  dependency_from all x (d, h, at) n = subst (λ (y : Dependency). DependencyKept p y rows n) (get_or_default p.dependencies d no_dependency x h ∙ at) (all d n h)

  dependency_to : ((x : Dependency) → Contains p.dependencies x → (n : ℕ) → DependencyKept p x rows n) → KeepsAll dependency_rule p rows
  dependency_to all d n h = all (get_or p.dependencies d no_dependency) (Contains-get_or p.dependencies d no_dependency h) n

  overlap_from : KeepsAll overlap_rule p rows → (i j : ℕ) → i < j → (n : ℕ) → OverlapKept p i j rows n
  overlap_from all i j below n a b ea eb =
      let T = p.dimensions.tasks in
      let hi = row_number p rows i a s ea in
      let hj = row_number p rows j b s eb in
      let di : (i * T + j) / T ≡ i = div-mul-add i T j hj in
      let dj : (i * T + j) % T ≡ j = mod-mul-add i T j hj in
      let place = all (i * T + j) n (omega (arith, mul-add-lt i T j T hi hj)) in
      subst (λ (y : ℕ). OverlapKept p i y rows n) dj
      (subst (λ (x : ℕ). OverlapKept p x ((i * T + j) % T) rows n) di (place (omega arith))) a b ea eb

  overlap_to : ((i j : ℕ) → i < j → (n : ℕ) → OverlapKept p i j rows n) → KeepsAll overlap_rule p rows
  overlap_to all k n h below = all (k / p.dimensions.tasks) (k % p.dimensions.tasks) below n

-- the rules so far, in the book's order
abbrev to2 : Meaning
to2 = allocation_rule then duration_rule

abbrev to3 : Meaning
to3 = to2 then whole_rule

abbrev to4 : Meaning
to4 = to3 then window_rule

abbrev to5 : Meaning
to5 = to4 then release_rule

abbrev to6 : Meaning
to6 = to5 then deadline_rule

abbrev to7 : Meaning
to7 = to6 then dependency_rule

-- the book is far from its cut: at most 6×64 + 256 + 64×64 places
book_count : (p : Model) → Within p → to7.count p + overlap_rule.count p ≤ 65537
book_count p w =
    let T = p.dimensions.tasks in
    let few : T ≤ 64 = w.dimensions.3.1 in
    let square = mul-le T T 64 64 few few in
    let deps = w.dependency_count in
    omega arith

pub meets : (p : Model) (rows : Rows) → Lawful published_book p rows → Conditions p rows
meets p rows l =
    let s = l.shape in
    let few = book_count p s.problem in
    let k7 = split_first to7 overlap_rule p rows few l.keeps in
    let k6 = split_first to6 dependency_rule p rows (omega arith) k7 in
    let k5 = split_first to5 deadline_rule p rows (omega arith) k6 in
    let k4 = split_first to4 release_rule p rows (omega arith) k5 in
    let k3 = split_first to3 window_rule p rows (omega arith) k4 in
    let k2 = split_first to2 whole_rule p rows (omega arith) k3 in
    record {
      allocation = λ t row e. split_first allocation_rule duration_rule p rows (omega arith) k2 t 0 (row_number p rows t row s e) row e;
      duration = λ t row e. split_second allocation_rule duration_rule p rows (omega arith) k2 t 0 (row_number p rows t row s e) row e;
      whole = λ t row e. split_second to2 whole_rule p rows (omega arith) k3 t 0 (row_number p rows t row s e) row e;
      window = λ t row e n. split_second to3 window_rule p rows (omega arith) k4 t n (row_number p rows t row s e) row e;
      release = λ t row e. split_second to4 release_rule p rows (omega arith) k5 t 0 (row_number p rows t row s e) row e;
      deadline = λ t row e. split_second to5 deadline_rule p rows (omega arith) k6 t 0 (row_number p rows t row s e) row e;
      dependency = dependency_from p rows s (split_second to6 dependency_rule p rows (omega arith) k7);
      overlap = overlap_from p rows s (split_second to7 overlap_rule p rows few l.keeps);
    }

pub suffices : (p : Model) (rows : Rows) → Shaped p rows → Conditions p rows → Lawful published_book p rows
suffices p rows s c = record {
  shape = s;
  keeps =
      join to7 overlap_rule p rows
      (join to6 dependency_rule p rows
      (join to5 deadline_rule p rows
      (join to4 release_rule p rows
      (join to3 window_rule p rows
      (join to2 whole_rule p rows
      (join allocation_rule duration_rule p rows
      (λ t n h row e. c.allocation t row e)
      (λ t n h row e. c.duration t row e))
      (λ t n h row e. c.whole t row e))
      (λ t n h row e. c.window t row e n))
      (λ t n h row e. c.release t row e))
      (λ t n h row e. c.deadline t row e))
      (dependency_to p rows s c.dependency))
      (overlap_to p rows s c.overlap);
}

pub exactly : (p : Model) → LawfulExactly p
exactly p = record { meets = λ rows l. (l.shape, meets p rows l); suffices = suffices p }
