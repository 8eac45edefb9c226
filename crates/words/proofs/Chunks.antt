-- Lists that are made of pieces of one length.
use Rattle.std.proofs.Common.{◌≡◌, ℕ, zero, suc, ◌+◌, ◌*◌, ◌<◌, List, [], ◌∷◌, ◌++◌, length, get_or, take, drop, sym, ap, ◌∙◌, append_assoc, append-nil, add-zero, mul-zero, mul-suc, arith, length-append}
use Rattle.std.proofs.lemmas.List.{take-append-drop, drop-drop, drop_all, take_at, drop_at}
use Rattle.std.specs.List.{range_with_len, flat_map, All}

-- a list that begins with n pieces of s elements each, known piece by piece
pub pieces_then : {A : Type 0} (s n a : ℕ) (xs : List A) (f : ℕ → List A) → ((i : ℕ) → i < n → take s (drop (s * i) xs) ≡ f (a + i)) → xs ≡ flat_map f (range_with_len a n) ++ drop (s * n) xs
pieces_then s zero a xs f each = ap (λ k. drop k xs) (sym (mul-zero s))
pieces_then s (suc n) a xs f each =
    let first : take s xs ≡ f a = ap (λ k. take s (drop k xs)) (sym (mul-zero s)) ∙ each 0 (omega arith) ∙ ap f (add-zero a) in
    let past : (i : ℕ) → drop (s * i) (drop s xs) ≡ drop (s * suc i) xs =
    λ i. let place : s + s * i ≡ s * suc i = omega (arith, mul-suc s i) in drop-drop (s * i) s xs ∙ ap (λ k. drop k xs) place in
    let more : (i : ℕ) → i < n → take s (drop (s * i) (drop s xs)) ≡ f ((a + 1) + i) =
    λ i lt. let index : a + suc i ≡ (a + 1) + i = omega arith in ap (take s) (past i) ∙ each (suc i) (omega arith) ∙ ap f index in
    sym (take-append-drop s xs)
    ∙ ap (λ ys. ys ++ drop s xs) first
    ∙ ap (λ ys. f a ++ ys) (pieces_then s n (a + 1) (drop s xs) f more ∙ ap (λ ys. flat_map f (range_with_len (a + 1) n) ++ ys) (past n))
    ∙ sym (append_assoc (f a) (flat_map f (range_with_len (a + 1) n)) (drop (s * suc n) xs))

-- a list of such pieces and nothing else
pub pieces_are : {A : Type 0} (s n a : ℕ) (xs : List A) (f : ℕ → List A) → length xs ≡ s * n → ((i : ℕ) → i < n → take s (drop (s * i) xs) ≡ f (a + i)) → xs ≡ flat_map f (range_with_len a n)
pieces_are s n a xs f long each =
    pieces_then s n a xs f each ∙ ap (λ ys. flat_map f (range_with_len a n) ++ ys) (drop_all (s * n) xs (omega arith)) ∙ append-nil (flat_map f (range_with_len a n))

-- piece i of pieces of one length, whatever follows
pub piece_of : {A X : Type 0} (s : ℕ) (f : X → List A) (xs : List X) (rest : List A) → All (λ x. length (f x) ≡ s) xs → (i : ℕ) (d : X) → i < length xs → take s (drop (s * i) (flat_map f xs ++ rest)) ≡ f (get_or xs i d)
piece_of s f [] rest all i d lt = absurd (omega arith)
piece_of s f (x ∷ xs) rest all zero d lt =
    ap (λ k. take s (drop k ((f x ++ flat_map f xs) ++ rest))) (mul-zero s)
    ∙ ap (take s) (append_assoc (f x) (flat_map f xs) rest)
    ∙ take_at (f x) (flat_map f xs ++ rest) s (all 0 x (omega arith))
piece_of s f (x ∷ xs) rest all (suc i) d lt =
    let place : s * suc i ≡ s + s * i = omega (arith, mul-suc s i) in
    ap (λ k. take s (drop k ((f x ++ flat_map f xs) ++ rest))) place
    ∙ ap (λ ys. take s (drop (s + s * i) ys)) (append_assoc (f x) (flat_map f xs) rest)
    ∙ ap (take s) (sym (drop-drop (s * i) s (f x ++ (flat_map f xs ++ rest))))
    ∙ ap (λ ys. take s (drop (s * i) ys)) (drop_at (f x) (flat_map f xs ++ rest) s (all 0 x (omega arith)))
    ∙ piece_of s f xs rest (λ k e below. all (suc k) e (omega arith)) i d (omega arith)

-- the length of pieces of one length
pub length_pieces : {A X : Type 0} (s : ℕ) (f : X → List A) (xs : List X) → All (λ x. length (f x) ≡ s) xs → length (flat_map f xs) ≡ s * length xs
length_pieces s f [] all = sym (mul-zero s)
length_pieces s f (x ∷ xs) all =
    length-append (f x) (flat_map f xs) ∙ omega (arith, all 0 x (omega arith), length_pieces s f xs (λ k e below. all (suc k) e (omega arith)), mul-suc s (length xs))
