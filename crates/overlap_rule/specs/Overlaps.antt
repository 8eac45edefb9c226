use Rattle.std.specs.Prelude.{◌≡◌, ℕ, ◌*◌, ◌/◌, ◌%◌, ◌<◌, [], ◌∷◌, Some}
use Rattle.problem.specs.Limits.{Model}
use Rattle.table.specs.Rows.{RowModel, Rows, row_at}
use Rattle.rules.specs.Meaning.{Meaning}
use Rattle.overlap_rule.specs.Instances.{RunsAt, NeverBoth}

-- instance `n` of `i` shares no tick with any instance `m` of `j`, unless an exclusion says that the two never both run
abbrev pub ApartIn : Model → ℕ → ℕ → RowModel → RowModel → ℕ → Type 0
ApartIn p i j a b n = (m tick : ℕ) → RunsAt p.dimensions.frame a n tick → RunsAt p.dimensions.frame b m tick → NeverBoth p i n j m

-- in frame `n` the rows of `i` and `j`, if both have one and on the same processor, are apart
abbrev pub OverlapKept : Model → ℕ → ℕ → Rows → ℕ → Type 0
OverlapKept p i j rows n =
    (a b : RowModel) → row_at rows i ≡ Some a → row_at rows j ≡ Some b → a.processor ≡ b.processor → ApartIn p i j a b n

-- rule 8: place i×T + j names `i` and `j`, and is kept if i ≥ j
abbrev pub overlap_rule : Meaning
overlap_rule = record {
  count = λ p. p.dimensions.tasks * p.dimensions.tasks;
  label = λ p k. record { rule = 8; place = k };
  tasks = λ p k. k / p.dimensions.tasks ∷ k % p.dimensions.tasks ∷ [];
  kept = λ p rows k n. k / p.dimensions.tasks < k % p.dimensions.tasks → OverlapKept p (k / p.dimensions.tasks) (k % p.dimensions.tasks) rows n;
}
