use Rattle.std.specs.Prelude.{◌≡◌, ℕ, ◌<◌, ◌⊎◌, length, ℤ, pos, negsuc, ◌+ℤ◌, ◌≤ℤ◌, ◌<ℤ◌, Some, None, Option, slice_index_or}
use Rattle.problem.specs.Limits.{Model}
use Rattle.table.specs.declared.part.Part.{Part}
use Rattle.table.specs.Rows.{RowModel, Rows, row_at, no_part}
use Rattle.overlap_rule.specs.declared.overlap.Overlap.{Overlap}
use Rattle.overlap_rule.specs.Instances.{InPart, NeverBoth}
use Rattle.overlap_rule.specs.Overlaps.{ApartIn, OverlapKept}

-- instance `m` is at the distance from instance `n`
abbrev pub AtDistance : ℕ → ℕ → ℤ → Type 0
AtDistance n m distance = pos m ≡ pos n +ℤ distance

-- some tick is in `a` of instance `n` and in `b` of instance `m`
abbrev pub ShareTick : ℕ → Part → ℕ → Part → ℕ → Type 0
ShareTick frame a n b m = (tick : ℕ) × InPart frame a n tick × InPart frame b m tick

-- part `x` of the first row and part `y` of the second, in instances at the distance, share no tick without leave
abbrev pub Clear : Model → ℕ → ℕ → RowModel → RowModel → ℤ → ℕ → ℕ → Type 0
Clear p i j a b distance x y =
    (n m : ℕ) → AtDistance n m distance → ShareTick p.dimensions.frame (slice_index_or a.parts x no_part) n (slice_index_or b.parts y no_part) m → NeverBoth p i n j m

-- the order of the search: by distance, then by the first row's part, then by the second's
abbrev pub Earlier : ℤ → ℕ → ℕ → Overlap → Type 0
Earlier distance x y o =
    (distance <ℤ o.distance) ⊎ ((distance ≡ o.distance) × ((x < o.first) ⊎ ((x ≡ o.first) × (y < o.second))))

-- the first overlap without leave, in the order of the search, at a distance from -3, which is `negsuc 2`, to 3: where it is, and that wherever the search looked earlier is clear
pub record FirstOverlap (p : Model) (i j : ℕ) (a b : RowModel) (o : Overlap) : Type 0 where
  pub low : negsuc 2 ≤ℤ o.distance
  pub high : o.distance ≤ℤ pos 3
  pub first : o.first < length a.parts
  pub second : o.second < length b.parts
  pub shared : (n m : ℕ) → AtDistance n m o.distance → ShareTick p.dimensions.frame (slice_index_or a.parts o.first no_part) n (slice_index_or b.parts o.second no_part) m
  pub unexcused : (n m : ℕ) → AtDistance n m o.distance → ¬ (NeverBoth p i n j m)
  pub before : (distance : ℤ) (x y : ℕ) → negsuc 2 ≤ℤ distance → x < length a.parts → y < length b.parts → Earlier distance x y o → Clear p i j a b distance x y

-- what a search through two rows finds: nothing where they are apart in every frame, else the first overlap
abbrev pub FoundBetween : Model → ℕ → ℕ → RowModel → RowModel → Option Overlap → Type 0
FoundBetween p i j a b None = (n : ℕ) → ApartIn p i j a b n
FoundBetween p i j a b (Some o) = FirstOverlap p i j a b o

-- the first overlap of two tasks' rows, which are on one processor, and a frame in which it breaks the place of the two
pub record OverlapOf (p : Model) (i j : ℕ) (rows : Rows) (o : Overlap) : Type 0 where
  pub a : RowModel
  pub b : RowModel
  pub a_is : row_at rows i ≡ Some a
  pub b_is : row_at rows j ≡ Some b
  pub one_processor : a.processor ≡ b.processor
  pub first : FirstOverlap p i j a b o
  pub broken : (n : ℕ) × ¬ (OverlapKept p i j rows n)

-- what the search for an overlap of two tasks finds: nothing where their place is kept in every frame
abbrev pub FoundOverlap : Model → ℕ → ℕ → Rows → Option Overlap → Type 0
FoundOverlap p i j rows None = (n : ℕ) → OverlapKept p i j rows n
FoundOverlap p i j rows (Some o) = OverlapOf p i j rows o
