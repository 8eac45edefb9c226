use Rattle.std.specs.Prelude.{◌≡◌, ℕ, ◌<◌, ◌⊎◌, List, [], ◌∷◌, ◌++◌, length, Ok, Err, Result, Contains}
use Rattle.piles.specs.declared.fault.WaiverFull.{WaiverFull}

-- a number that is listed alters nothing
pub record Known (before : List ℕ) (place : ℕ) (after : List ℕ) : Type 0 where
  pub listed : Contains before place
  pub same : after ≡ before

-- a number that is not listed, where there is room, is added
pub record Added (before : List ℕ) (place : ℕ) (after : List ℕ) : Type 0 where
  pub new : ¬ (Contains before place)
  pub room : length before < 16
  pub more : after ≡ before ++ place ∷ []

-- a number that is not listed, where 16 are, is refused and alters nothing
pub record Full (before : List ℕ) (place : ℕ) (after : List ℕ) : Type 0 where
  pub new : ¬ (Contains before place)
  pub full : length before ≡ 16
  pub same : after ≡ before

-- what adding a number to a waiver's list answers and leaves
abbrev pub Waives : List ℕ → ℕ → List ℕ → Result (Unit {0}) WaiverFull → Type 0
Waives before place after (Ok _) = Known before place after ⊎ Added before place after
Waives before place after (Err fault) = (fault.place ≡ place) × Full before place after
