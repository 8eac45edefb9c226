-- Instances at a distance: what they share, in ticks, and how the code computes it with signed numbers.
use Rattle.std.proofs.Common.{◌≡◌, ◌≢◌, false, to_z, of_z, ℕ, suc, ◌≤◌, nat_abs, subst, ◌+◌, ◌*◌, ◌<◌, max, ℤ, pos, negsuc, ◌+ℤ◌, ◌*ℤ◌, ◌<ℤ◌, ◌↔◌, ap, add-mul, arith, w8, SFits}
use lib.Signed.{le_z}
use lib.IntN.{pos-*ℤ-pos, negsuc-*ℤ-pos}
use Rattle.std.specs.Int.{int_max, int_min}
use Rattle.std.proofs.lemmas.Int.{ints, clamps}
use Rattle.std.proofs.lemmas.Nat.{mul-le}
use Rattle.table.specs.declared.part.Part.{Part}
use Rattle.problem.specs.Limits.{Model}
use Rattle.overlap_rule.specs.Instances.{Excludes, Listed}
use Rattle.overlap_rule.specs.Search.{AtDistance, ShareTick}

-- how many ticks the second instance is after the first
shifted : (d : ℤ) (n m frame : ℕ) → AtDistance n m d → pos (m * frame) ≡ pos (n * frame) +ℤ (d *ℤ pos frame)
shifted (pos k) n m frame at =
    let s : m ≡ n + k = omega (arith, ints) in
    omega (arith, ints, ap (λ (z : ℕ). z * frame) s, add-mul n k frame, pos-*ℤ-pos k frame)
shifted (negsuc k) n m frame at =
    let s : n ≡ m + suc k = omega (arith, ints) in
    omega (arith, ints, ap (λ (z : ℕ). z * frame) s, add-mul m (suc k) frame, negsuc-*ℤ-pos k frame)

-- a distance of eight bits, in ticks
pub short : (d : ℤ) (frame : ℕ) → SFits w8 d → frame < 4294967296 → nat_abs (d *ℤ pos frame) ≤ 549755813888
short (pos k) frame fits few = let most = mul-le k frame 128 4294967296 (omega (arith, ints)) (omega arith) in omega (arith, ints, pos-*ℤ-pos k frame)
short (negsuc k) frame fits few = let most = mul-le (suc k) frame 128 4294967296 (omega (arith, ints)) (omega arith) in omega (arith, ints, negsuc-*ℤ-pos k frame)

-- how far the later of two instances is from the earlier is the distance of the exclusion
pub excludes : (p : Model) (x y n m far : ℕ) → m ≡ n + far → Listed p x y far ↔ Excludes p x n y m
excludes p x y n m far at = (λ l. (far, l, at), λ (distance, l, is). let same : distance ≡ far = omega arith in subst (λ (z : ℕ). Listed p x y z) same l)

-- the first instance is not after the second at a distance above 0
pub not_behind : (d : ℤ) (n m far : ℕ) → SFits w8 d → AtDistance n m d → le_z (to_z w8 (of_z w8 d)) (pos 0) ≡ false → n ≢ m + far
not_behind d n m far fits at test behind = grind (arith, ints)

-- two parts share a tick exactly if the later of their begins is before the earlier of their ends
pub shared : (frame : ℕ) (a b : Part) (d : ℤ) (n m : ℕ) → AtDistance n m d →
    (int_max (pos a.begin) (pos b.begin +ℤ (d *ℤ pos frame)) <ℤ int_min (pos a.end) (pos b.end +ℤ (d *ℤ pos frame))) ↔ ShareTick frame a n b m
shared frame a b d n m at =
    let s = shifted d n m frame at in (
      λ h. (max (a.begin + n * frame) (b.begin + m * frame), (omega (arith, ints, clamps), omega (arith, ints, clamps)), (omega (arith, ints, clamps), omega (arith, ints, clamps))),
      λ (tick, ia, ib). omega (arith, ints, clamps),
    )
