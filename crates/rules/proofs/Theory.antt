-- What the laws give: a change of some rows leaves the places that do not name their tasks kept, and every part of a lawful table is lawful.
use Rattle.std.proofs.Common.{◌≡◌, ℕ, ◌<◌, ◌≤◌, ◌⊎◌, List, [], ◌∷◌, Some, None, Option, All, Contains, IfNone, sym, refl, ◌∙◌, subst, inl, inr, arith}
use Rattle.std.proofs.lemmas.List.Elements.{All-cons, All-contains, All-nil}
use Rattle.std.proofs.lemmas.List.{length-set}
use Rattle.std.specs.Option.{MatchOption}
use Rattle.problem.specs.Limits.{Model}
use Rattle.table.specs.Put.{without}
use Rattle.table.specs.Rows.{Rows, row_at, Agree}
use Rattle.table.specs.Shape.{Shaped}
use Rattle.table.proofs.Shapes.{set_at}
use Rattle.rules.specs.Judged.{Keeps, Breaks}
use Rattle.rules.specs.Lawful.{Lawful, PartOf, DifferAt}
use Rattle.rules.specs.Meaning.{Meaning, Reach, Absence, Names, tasks_of}
use Rattle.rules.specs.Search.{NamesEither, BrokenNaming, KeptNaming, FoundNaming, Found, Lasting}
use Rattle.rules.proofs.Named.{has_or_not, has_first, has_later, named_below}

-- some task of the list has no row, or the tables agree on all of them
missing_or_same : (part whole : Rows) → PartOf part whole → (ts : List ℕ) → ((t : ℕ) × Contains ts t × (row_at part t ≡ None)) ⊎ All (Agree whole part) ts
missing_or_same part whole of [] = inr (All-nil (Agree whole part))
missing_or_same part whole of (t ∷ ts) =
    elim (of.rows t) [
      | inl none ↦ inl (t, has_first t ts, none)
      | inr same ↦ elim (missing_or_same part whole of ts) [
        | inl found ↦ inl (found.0, has_later t ts found.0 found.1, found.2)
        | inr all ↦ inr (All-cons (Agree whole part) t ts (sym same) all)
      ]
    ]

-- a table with a row taken out is part of it
pub without_part : (rows : Rows) (t : ℕ) → PartOf (without rows t) rows
without_part rows t = record {
  places = length-set rows t None;
  rows = λ u. elim (set_at rows t u None None (row_at (without rows t) u) refl) [ inl h ↦ inl (sym h) | inr h ↦ inr (sym h) ];
}

module _ (m : Meaning) (p : Model) where
  -- a part of a table of lawful shape has lawful shape
  pub shaped_part : (part whole : Rows) → PartOf part whole → Shaped p whole → Shaped p part
  shaped_part part whole of s = record {
    problem = s.problem;
    places = of.places ∙ s.places;
    shapes = λ t row e. elim (of.rows t) [
      | inl none ↦ absurd (let z : ◌≡◌ {A = ℕ} 0 1 = cc in omega arith)
      | inr same ↦ s.shapes t row (sym same ∙ e)
    ];
  }

  -- from a lawful table, changing rows leaves every place that names none of their tasks kept
  pub unnamed_kept : Reach m → (before after : Rows) (k : ℕ) → Lawful m p before → Shaped p after → ((t : ℕ) → Names m p k t → Agree before after t) → Keeps m p after k
  unnamed_kept reach before after k l s same n h =
      reach p before after k n l.shape s h (λ t has. same t (named_below m p k t h has)) (l.keeps k n h)

  -- every part of a lawful table is lawful
  pub lawful_part : Reach m → Absence m → (part whole : Rows) → PartOf part whole → Lawful m p whole → Lawful m p part
  lawful_part reach absence part whole of l =
      let s = shaped_part part whole of l.shape in
      record {
        shape = s;
        keeps = λ k n h. elim (missing_or_same part whole of (m.tasks p k)) [
          | inl found ↦ absence p part k n found.0 s h found.1 found.2
          | inr all ↦ reach p whole part k n l.shape s h (λ t has. All-contains (Agree whole part) (m.tasks p k) t all has) (l.keeps k n h)
        ];
      }

module _ (m : Meaning) (p : Model) (a b : ℕ) (before after : Rows) (reach : Reach m) (l : Lawful m p before) (s : Shaped p after) (differ : DifferAt a b before after) where
  -- a place that names neither of two changed tasks is kept
  neither_kept : (k : ℕ) → ¬ (NamesEither m p k a b) → Keeps m p after k
  neither_kept k none =
      unnamed_kept m p reach before after k l s (λ t named.
      differ t (λ e. none (inl (subst (λ (u : ℕ). Names m p k u) e named))) (λ e. none (inr (subst (λ (u : ℕ). Names m p k u) e named))))

  -- a place is kept if it is wherever it names one of the two
  either_kept : (k : ℕ) → (NamesEither m p k a b → Keeps m p after k) → Keeps m p after k
  either_kept k kept =
      elim (has_or_not (tasks_of m p k) a) [
        | inl named ↦ kept (inl named)
        | inr noa ↦ elim (has_or_not (tasks_of m p k) b) [
          | inl named ↦ kept (inr named)
          | inr nob ↦ neither_kept k (λ named. elim named [ inl h ↦ noa h | inr h ↦ nob h ])
        ]
      ]

  pub found_after_change : (found : Option ℕ) → FoundNaming m p after a b found → Found m p after found
  found_after_change None all = record { shape = s; keeps = λ k. either_kept k (all k) }
  found_after_change (Some k) first = record { broken = first.broken; before = λ j h. either_kept j (first.before j h) }

module _ (m : Meaning) (p : Model) (rows : Rows) (count : ℕ) (all : count ≡ m.count p) where
  -- a search through all places below the count finds the first broken one, or that the table is lawful
  pub found_first :
      Shaped p rows → (found : Option ℕ) →
      MatchOption found ((k : ℕ) → 0 ≤ k → k < count → Keeps m p rows k) (λ i. (0 ≤ i) × (i < count) × Breaks m p rows i × ((k : ℕ) → 0 ≤ k → k < i → Keeps m p rows k)) →
      Found m p rows found
  found_first s None kept = record { shape = s; keeps = λ k n h. kept k (omega arith) (omega arith) n h }
  found_first s (Some k) first = record { broken = first.2; before = λ j h. first.3 j (omega arith) h }

  -- the same of the places that name one of two tasks
  pub found_naming :
      (a b : ℕ) (found : Option ℕ) →
      MatchOption found ((k : ℕ) → 0 ≤ k → k < count → KeptNaming m p rows a b k)
      (λ i. (0 ≤ i) × (i < count) × BrokenNaming m p rows a b i × ((k : ℕ) → 0 ≤ k → k < i → KeptNaming m p rows a b k)) →
      FoundNaming m p rows a b found
  found_naming a b None kept = λ k named n h. (kept k (omega arith) (omega arith)).kept named n h
  found_naming a b (Some k) first = record { named = first.2.named; broken = first.2.broken; before = λ j h. (first.3 j (omega arith) h).kept }

-- what a lawful table lasts through
pub found_lasting : (m : Meaning) (p : Model) (rows : Rows) → Reach m → Absence m → (found : Option ℕ) → Found m p rows found → IfNone found (Lasting m p rows)
found_lasting m p rows reach absence None lawful = record {
  parts = λ part of. lawful_part m p reach absence part rows of lawful;
  unnamed = λ after k s same. unnamed_kept m p reach rows after k lawful s same;
}
found_lasting m p rows reach absence (Some k) first = tt
