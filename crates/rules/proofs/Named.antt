-- Which tasks a place names.
use Rattle.std.proofs.Common.{◌≡◌, ℕ, ◌<◌, ◌≤◌, Bool, false, ◌||◌, eqb, ltb, ◌⊎◌, List, [], ◌∷◌, Contains, refl, inl, inr, arith}
use Rattle.std.proofs.lemmas.Bool.{lt-ltb, le-ltb, cond-true, cond-false, cases_Bool}
use Rattle.std.proofs.lemmas.Bool.Decides.{Decides-by_or, Decides-eqb, not_from_Decides}
use Rattle.std.proofs.lemmas.List.Elements.{Contains-append_right, Decides-contains}
use Rattle.problem.specs.Limits.{Model}
pub use Rattle.rules.specs.Laws.{has_two}
use Rattle.rules.specs.Meaning.{Meaning, Names, tasks_of}

abbrev is_in : ℕ → List ℕ → Bool
is_in t [] = false
is_in t (x ∷ xs) = eqb x t || is_in t xs

-- a task stands in a list or does not
pub has_or_not : (xs : List ℕ) (t : ℕ) → Contains xs t ⊎ ¬ (Contains xs t)
has_or_not xs t =
    let d = Decides-contains xs t (is_in t xs) (Decides-by_or (λ x. eqb x t) (λ x. x ≡ t) (is_in t) (λ x. Decides-eqb x t) refl (λ _ _. refl) xs) in
    elim (cases_Bool (is_in t xs)) [ inl h ↦ inl (d.0 h) | inr h ↦ inr (not_from_Decides (is_in t xs) d h) ]

pub has_first : {X : Type 0} (x : X) (xs : List X) → Contains (x ∷ xs) x
has_first x xs = (0, omega arith, refl)

pub has_later : {X : Type 0} (x : X) (xs : List X) (y : X) → Contains xs y → Contains (x ∷ xs) y
has_later x xs y h = Contains-append_right (x ∷ []) xs y h

-- below the count the tasks are the meaning's own
pub tasks_below : (m : Meaning) (p : Model) (k : ℕ) → k < m.count p → tasks_of m p k ≡ m.tasks p k
tasks_below m p k h = cond-true (ltb k (m.count p)) _ _ (lt-ltb k (m.count p) h)

-- at or above the count, task 0 twice
pub tasks_past : (m : Meaning) (p : Model) (k : ℕ) → m.count p ≤ k → tasks_of m p k ≡ 0 ∷ 0 ∷ []
tasks_past m p k h = cond-false (ltb k (m.count p)) _ _ (le-ltb k (m.count p) h)

pub named_below : (m : Meaning) (p : Model) (k t : ℕ) → k < m.count p → Contains (m.tasks p k) t → Names m p k t
named_below m p k t h has = rw (tasks_below m p k h) has
