-- A part and a window by remainders: whichever instance the part is of, it lies inside a repetition of the window or does not.
use Rattle.std.proofs.Common.{◌≡◌, ℕ, ◌+◌, ◌-◌, ◌*◌, ◌/◌, ◌%◌, ◌<◌, ◌≤◌, ap, inl, inr, mul-le-mul_right, add-mul, arith}
use Rattle.std.proofs.lemmas.Nat.{div-add-mod', mod_below}
use Rattle.std.proofs.lemmas.Bool.{cases_lt}

module _ (frame b e wb we : ℕ) (some : 1 ≤ frame) (be : b < e) (wf : we ≤ frame) where
  pub inside_from : wb ≤ b % frame → b % frame + (e - b) ≤ we → (n : ℕ) → (k : ℕ) × (wb + k * frame ≤ b + n * frame) × (e + n * frame ≤ we + k * frame)
  inside_from h1 h2 n =
      let d = div-add-mod' b frame in
      let m = add-mul (b / frame) n frame in
      (b / frame + n, omega arith, omega arith)

  pub inside_to : (n k : ℕ) → wb + k * frame ≤ b + n * frame → e + n * frame ≤ we + k * frame → (wb ≤ b % frame) × (b % frame + (e - b) ≤ we)
  inside_to n k h1 h2 =
      let d = div-add-mod' b frame in
      let r = mod_below b frame some in
      let m = add-mul (b / frame) n frame in
      let up : k ≤ b / frame + n = elim (cases_lt (b / frame + n) k) [
        | inl f ↦ absurd (omega (arith, mul-le-mul_right {m = b / frame + n + 1} {n = k} frame (omega arith), add-mul (b / frame + n) 1 frame))
        | inr f ↦ f
      ] in
      let down : b / frame + n ≤ k = elim (cases_lt k (b / frame + n)) [
        | inl f ↦ absurd (omega (arith, mul-le-mul_right {m = k + 1} {n = b / frame + n} frame (omega arith), add-mul k 1 frame))
        | inr f ↦ f
      ] in
      let same : k ≡ b / frame + n = omega arith in
      let s = ap (λ (z : ℕ). z * frame) same in
      (omega arith, omega arith)
