-- Two rows are apart in every frame if they are clear of each other at the distances from -3 to 3.
use Rattle.std.specs.Prelude.{◌≡◌, ℕ, ◌+◌, ◌-◌, ◌*◌, ◌<◌, ◌≤◌, true, false, length, ℤ, pos, negsuc, ◌+ℤ◌, ◌-ℤ◌, ◌≤ℤ◌, ◌<ℤ◌, int_le, slice_index_or}
use Rattle.std.proofs.Common.{inl, inr, sym, ◌∙◌, subst, to_z, of_z, add-mul, mul-le-mul_right, arith}
use Rattle.std.specs.Int.{w8}
use Rattle.std.proofs.lemmas.Int.{ints, by_lt_z}
use Rattle.std.proofs.lemmas.Bool.{cases_lt}
use Rattle.std.proofs.lemmas.List.{get_or_default}
use Rattle.std.proofs.lemmas.List.Elements.{Contains-get_or}
use Rattle.problem.specs.Limits.{Model}
use Rattle.table.specs.declared.part.Part.{Part}
use Rattle.table.specs.Rows.{RowModel, no_part, start_of}
use Rattle.table.specs.Shape.{LawfulShape}
use Rattle.table.proofs.Spread.{begins_after, ends_before}
use Rattle.overlap_rule.specs.declared.overlap.Overlap.{Overlap}
use Rattle.overlap_rule.specs.Instances.{InPart, NeverBoth}
use Rattle.overlap_rule.specs.Overlaps.{ApartIn}
use Rattle.overlap_rule.specs.Search.{AtDistance, Clear, Earlier, ShareTick}

-- what a test of two distances says
pub test_le : (d e : ℤ) → int_le d e ≡ true → d ≤ℤ e
test_le d e t = grind (arith, ints)

pub test_gt : (d e : ℤ) → int_le d e ≡ false → e <ℤ d
test_gt d e t = grind (arith, ints)

-- the distance after the last that was looked at
pub next_distance : (d : ℤ) → negsuc 2 ≤ℤ d → d ≤ℤ pos 3 →
    (negsuc 2 ≤ℤ to_z w8 (of_z w8 (d +ℤ pos 1))) × (to_z w8 (of_z w8 (d +ℤ pos 1)) ≤ℤ pos 4) × (to_z w8 (of_z w8 (d +ℤ pos 1)) ≡ d +ℤ pos 1)
next_distance d low high = (omega (arith, ints), omega (arith, ints), omega (arith, ints))

-- a distance up to 3 is below one past 3
pub below_last : (d last : ℤ) → d <ℤ pos 4 → pos 3 <ℤ last → d <ℤ last
below_last d last h past = omega (arith, ints)

-- what holds at each distance below one, and at that, holds at each below the next
pub below_more_ℤ : (P : ℤ → Type 0) (low d next : ℤ) → next ≡ d +ℤ pos 1 → ((s : ℤ) → low ≤ℤ s → s <ℤ d → P s) → P d → (s : ℤ) → low ≤ℤ s → s <ℤ next → P s
below_more_ℤ P low d next is below here s l h =
    by_lt_z s d (λ lt. below s l lt) (λ ge. let q : d ≡ s = omega (arith, ints) in subst P q here)

-- the instance at the distance from instance 3
pub third : (d : ℤ) → negsuc 2 ≤ℤ d → (m : ℕ) × AtDistance 3 m d
third (pos k) low = (3 + k, omega (arith, ints))
third (negsuc k) low = (3 - (k + 1), omega (arith, ints))

-- the distance of two instances
apart : (n m : ℕ) → (d : ℤ) × AtDistance n m d
apart n m = (pos m -ℤ pos n, omega (arith, ints))

-- instances further than three apart share no tick
near : (frame m n A B t : ℕ) → A < 3 * frame → B < 3 * frame → A + n * frame ≤ t → t < B + frame + m * frame → n ≤ m + 3
near frame m n A B t a b l h =
    elim (cases_lt (m + 3) n) [
      | inl f ↦ absurd (omega (arith, mul-le-mul_right {m = m + 4} {n = n} frame (omega arith), add-mul m 4 frame))
      | inr f ↦ f
    ]

module _ (p : Model) (i j : ℕ) (a b : RowModel) (oka : LawfulShape p.dimensions a) (okb : LawfulShape p.dimensions b) where
  pub clear_apart : ((d : ℤ) → negsuc 2 ≤ℤ d → d <ℤ pos 4 → (x y : ℕ) → x < length a.parts → y < length b.parts → Clear p i j a b d x y) → (n : ℕ) → ApartIn p i j a b n
  clear_apart clear n m t (ap, (x, hx, ax), ia) (bp, (y, hy, ay), ib) =
      let frame = p.dimensions.frame in
      let ip = subst (λ (z : Part). InPart frame z n t) (sym (get_or_default a.parts x no_part ap hx ∙ ax)) ia in
      let iq = subst (λ (z : Part). InPart frame z m t) (sym (get_or_default b.parts y no_part bp hy ∙ ay)) ib in
      let a1 = begins_after p.dimensions a oka x hx in
      let a2 = ends_before p.dimensions a oka x hx in
      let b1 = begins_after p.dimensions b okb y hy in
      let b2 = ends_before p.dimensions b okb y hy in
      let nm : n ≤ m + 3 = near frame m n (start_of a) (start_of b) t oka.starts okb.starts (omega arith) (omega arith) in
      let mn : m ≤ n + 3 = near frame n m (start_of b) (start_of a) t okb.starts oka.starts (omega arith) (omega arith) in
      let d = apart n m in
      clear d.0 (omega (arith, ints, d.1)) (omega (arith, ints, d.1)) x y hx hy n m d.1 (t, ip, iq)

  -- parts that share a tick without leave break the place in frame 3
  pub overlap_broken : (d : ℤ) → negsuc 2 ≤ℤ d → (x y : ℕ) → x < length a.parts → y < length b.parts →
      ((n m : ℕ) → AtDistance n m d → ShareTick p.dimensions.frame (slice_index_or a.parts x no_part) n (slice_index_or b.parts y no_part) m) →
      ((n m : ℕ) → AtDistance n m d → ¬ (NeverBoth p i n j m)) → ¬ (ApartIn p i j a b 3)
  overlap_broken d low x y hx hy shared never kept =
      let m = third d low in
      let s = shared 3 m.0 m.1 in
      never 3 m.0 m.1 (kept m.0 s.0 (slice_index_or a.parts x no_part, Contains-get_or a.parts x no_part hx, s.1) (slice_index_or b.parts y no_part, Contains-get_or b.parts y no_part hy, s.2))

module _ (p : Model) (i j : ℕ) (a b : RowModel) where
  -- wherever the search looked earlier, by what it knows of distances, of the first row's parts and of the second's
  pub earlier_clear : (o : Overlap) →
      ((d : ℤ) → negsuc 2 ≤ℤ d → d <ℤ o.distance → (x : ℕ) → x < length a.parts → (y : ℕ) → y < length b.parts → Clear p i j a b d x y) →
      ((x : ℕ) → x < o.first → (y : ℕ) → y < length b.parts → Clear p i j a b o.distance x y) →
      ((y : ℕ) → y < o.second → Clear p i j a b o.distance o.first y) →
      (d : ℤ) (x y : ℕ) → negsuc 2 ≤ℤ d → x < length a.parts → y < length b.parts → Earlier d x y o → Clear p i j a b d x y
  earlier_clear o distances firsts seconds d x y low hx hy earlier =
      elim earlier [
        | inl h ↦ distances d low h x hx y hy
        | inr (same, part) ↦ subst (λ (z : ℤ). Clear p i j a b z x y) (sym same)
            (elim part [
              | inl h ↦ firsts x h y hy
              | inr (here, h) ↦ subst (λ (z : ℕ). Clear p i j a b o.distance z y) (sym here) (seconds y h)
            ])
      ]
