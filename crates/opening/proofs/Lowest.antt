-- The lowest number that passes a test.
use Rattle.std.proofs.Common.{◌≡◌, ℕ, zero, suc, ◌+◌, ◌<◌, Bool, true, false, cond, Some, None, Option, sym, refl, ap, ◌∙◌, ⊎_elim, add-one, arith}
use Rattle.std.proofs.lemmas.Bool.{cases_eq}
use Rattle.std.specs.Option.{option_map, option_or}
use Rattle.opening.specs.Opened.{lowest}

pub lowest_none : (test : ℕ → Bool) → lowest test 0 ≡ None
unfolding lowest
lowest_none test = refl

-- a number that fails leaves none
pub lowest_more : (test : ℕ → Bool) (i : ℕ) → lowest test i ≡ None → test i ≡ false → lowest test (i + 1) ≡ None
unfolding lowest
lowest_more test i none fails = rw (add-one, lowest, none, fails)

-- the first that passes is the lowest, however far the test goes on
pub lowest_found : (test : ℕ → Bool) (i n : ℕ) → lowest test i ≡ None → test i ≡ true → i < n → lowest test n ≡ Some i
unfolding lowest
lowest_found test i zero none passes lt = absurd (omega arith)
lowest_found test i (suc n) none passes lt =
    ⊎_elim
    (λ (e : n ≡ i). rw (e, none, passes))
    (λ (ne : n ≡ i → ⊥). let below = lowest_found test i n none passes (omega arith) in rw below)
    (cases_eq n i)

-- none below n passes
pub lowest_none_from : (test : ℕ → Bool) (n : ℕ) → ((k : ℕ) → k < n → test k ≡ false) → lowest test n ≡ None
lowest_none_from test zero fails = lowest_none test
lowest_none_from test (suc n) fails =
    ap (lowest test) (sym (add-one n)) ∙ lowest_more test n (lowest_none_from test n (λ k lt. fails k (omega arith))) (fails n (omega arith))

pub neither : {X : Type 0} (o p : Option X) → option_or o p ≡ None → (o ≡ None) × (p ≡ None)
neither None p e = (refl, e)
neither (Some x) p e = cc

not_found : (b : Bool) (i : ℕ) → cond b (Some i) None ≡ None → b ≡ false
not_found true i e = cc
not_found false i e = refl

-- where there is no lowest, each one fails
pub each_fails : (test : ℕ → Bool) (n : ℕ) → lowest test n ≡ None → (k : ℕ) → k < n → test k ≡ false
unfolding lowest
each_fails test zero none k lt = absurd (omega arith)
each_fails test (suc n) none k lt =
    let both = neither (lowest test n) (cond (test n) (Some n) None) none in
    ⊎_elim
    (λ (e : k ≡ n). ap test e ∙ not_found (test n) n both.1)
    (λ (ne : k ≡ n → ⊥). each_fails test n both.0 k (omega arith))
    (cases_eq k n)

-- where none is made of what was found, none was found
pub mapped_none : {X Y : Type 0} (f : X → Y) (o : Option X) → option_map f o ≡ None → o ≡ None
mapped_none f None e = refl
mapped_none f (Some x) e = cc
