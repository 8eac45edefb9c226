-- Words that are read from bytes, and bytes that are made of words.
use Rattle.std.proofs.Common.{◌≡◌, ℕ, ◌+◌, ◌*◌, ◌^◌, ◌<◌, ◌≤◌, List, [], ◌∷◌, ◌++◌, map, length, get_or, take, drop, sym, refl, ap, ◌∙◌, ⊎_elim, append-nil, add-zero, add_assoc, arith, length-drop, length-take}
use Rattle.std.proofs.lemmas.Nat.{from_le_bytes-to_le_bytes_4, le_bytes_4}
use Rattle.std.proofs.lemmas.List.{get_or-take, get_or-drop, get_or_past, length-take-le}
use Rattle.std.proofs.lemmas.Bool.{cases_lt}
use Rattle.std.proofs.lemmas.List.Folds.{flat_map-map}
use Rattle.std.specs.List.{range_with_len, All}
use Rattle.words.specs.Words.{word_at, word_bytes, encoded}
use Rattle.words.proofs.Chunks.{pieces_are, piece_of, length_pieces}

-- each element is a byte
abbrev pub Octets : List ℕ → Type 0
Octets bytes = (k : ℕ) → get_or bytes k 0 < 256

-- a word that is written is read again
pub word_of_bytes : (w : ℕ) → w < 2 ^ 32 → word_at (word_bytes w) 0 ≡ w
unfolding word_at word_bytes
word_of_bytes w small = from_le_bytes-to_le_bytes_4 w small

-- a list of four elements, by its elements
pub four : (xs : List ℕ) → length xs ≡ 4 → xs ≡ get_or xs 0 0 ∷ get_or xs 1 0 ∷ get_or xs 2 0 ∷ get_or xs 3 0 ∷ []
four [] e = absurd (omega arith)
four (a ∷ []) e = absurd (omega arith)
four (a ∷ b ∷ []) e = absurd (omega arith)
four (a ∷ b ∷ c ∷ []) e = absurd (omega arith)
four (a ∷ b ∷ c ∷ d ∷ []) e = refl
four (a ∷ b ∷ c ∷ d ∷ x ∷ xs) e = absurd (omega arith)

-- four bytes that are read as a word are that word's bytes
pub bytes_of_word : (xs : List ℕ) → length xs ≡ 4 → Octets xs → xs ≡ word_bytes (word_at xs 0)
unfolding word_at word_bytes
bytes_of_word xs long small = sym (le_bytes_4 xs (word_at xs 0) long small refl)

-- a word that is read from a part of the bytes
pub word_of_part : (n a k : ℕ) (xs : List ℕ) → k + 4 ≤ n → word_at (take n (drop a xs)) k ≡ word_at xs (a + k)
unfolding word_at
word_of_part n a k xs within =
    let at : (j : ℕ) → j < n → get_or (take n (drop a xs)) j 0 ≡ get_or xs (a + j) 0 =
    λ j lt. get_or-take n (drop a xs) j 0 lt ∙ get_or-drop a xs j 0 in
    let e0 = at k (omega arith) in
    let e1 = at (k + 1) (omega arith) ∙ ap (λ j. get_or xs j 0) (sym (add_assoc a k 1)) in
    let e2 = at (k + 2) (omega arith) ∙ ap (λ j. get_or xs j 0) (sym (add_assoc a k 2)) in
    let e3 = at (k + 3) (omega arith) ∙ ap (λ j. get_or xs j 0) (sym (add_assoc a k 3)) in
    cc

-- a part of bytes is bytes
pub octets_part : (n a : ℕ) (xs : List ℕ) → Octets xs → Octets (take n (drop a xs))
octets_part n a xs small k =
    ⊎_elim
    (λ lt. let e : get_or (take n (drop a xs)) k 0 ≡ get_or xs (a + k) 0 = get_or-take n (drop a xs) k 0 lt ∙ get_or-drop a xs k 0 in
    omega (arith, small (a + k)))
    (λ (le : n ≤ k). let e : get_or (take n (drop a xs)) k 0 ≡ 0 = get_or_past (take n (drop a xs)) k 0 (simp length-take (omega arith)) in omega arith)
    (cases_lt k n)

-- bytes that are read as words are those words' bytes
pub bytes_of_words : (n : ℕ) (xs : List ℕ) → length xs ≡ 4 * n → Octets xs → xs ≡ encoded (map (λ k. word_at xs (4 * k)) (range_with_len 0 n))
bytes_of_words n xs long small =
    let piece : (i : ℕ) → i < n → take 4 (drop (4 * i) xs) ≡ word_bytes (word_at xs (4 * (0 + i))) =
    λ i lt.
    let four : length (take 4 (drop (4 * i) xs)) ≡ 4 = length-take-le 4 (drop (4 * i) xs) (simp length-drop (omega arith)) in
    let place : 4 * i + 0 ≡ 4 * (0 + i) = omega arith in
    bytes_of_word (take 4 (drop (4 * i) xs)) four (octets_part 4 (4 * i) xs small)
    ∙ ap word_bytes (word_of_part 4 (4 * i) 0 xs (omega arith) ∙ ap (word_at xs) place) in
    pieces_are 4 n 0 xs (λ k. word_bytes (word_at xs (4 * k))) long piece ∙ sym (flat_map-map word_bytes (λ k. word_at xs (4 * k)) (range_with_len 0 n))

four_bytes : (ws : List ℕ) → All (λ w. length (word_bytes w) ≡ 4) ws
unfolding word_bytes
four_bytes ws k w below = refl

-- four bytes to a word
pub length_encoded : (ws : List ℕ) → length (encoded ws) ≡ 4 * length ws
length_encoded ws = length_pieces 4 word_bytes ws (four_bytes ws)

-- words that are written are read again, whatever follows
pub words_of_bytes : (ws rest : List ℕ) (k : ℕ) → k < length ws → get_or ws k 0 < 2 ^ 32 → word_at (encoded ws ++ rest) (4 * k) ≡ get_or ws k 0
words_of_bytes ws rest k lt small =
    ap (word_at (encoded ws ++ rest)) (sym (add-zero (4 * k)))
    ∙ sym (word_of_part 4 (4 * k) 0 (encoded ws ++ rest) (omega arith))
    ∙ ap (λ xs. word_at xs 0) (piece_of 4 word_bytes ws rest (four_bytes ws) k 0 lt)
    ∙ word_of_bytes (get_or ws k 0) small

-- the same, where nothing follows
pub word_in : (ws : List ℕ) (k : ℕ) → k < length ws → get_or ws k 0 < 2 ^ 32 → word_at (encoded ws) (4 * k) ≡ get_or ws k 0
word_in ws k lt small = ap (λ xs. word_at xs (4 * k)) (sym (append-nil (encoded ws))) ∙ words_of_bytes ws [] k lt small
