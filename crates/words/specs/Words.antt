use Rattle.std.specs.Prelude.{ℕ, ◌+◌, ◌*◌, ◌/◌, ◌%◌, if◌then◌else◌, List, [], ◌∷◌, map, length, Some, None, Option, nat_le, slice_index}
use Rattle.std.specs.List.{flat_map, range_with_len}

-- the word whose four bytes begin at byte `at`, the lowest byte first
unfoldable pub word_at : List ℕ → ℕ → ℕ
word_at bytes at = slice_index bytes at + slice_index bytes (at + 1) * 256 + slice_index bytes (at + 2) * 65536 + slice_index bytes (at + 3) * 16777216

-- that word, where all its four bytes are there
abbrev pub read_at : List ℕ → ℕ → Option ℕ
read_at bytes at = (if nat_le (at + 4) (length bytes) then Some (word_at bytes at) else None)

-- the first `n` words, one after the other
abbrev pub words_in : ℕ → List ℕ → List ℕ
words_in n bytes = map (λ k. word_at bytes (4 * k)) (range_with_len 0 n)

-- those words, where all their bytes are there
abbrev pub first_words : ℕ → List ℕ → Option (List ℕ)
first_words n bytes = (if nat_le (4 * n) (length bytes) then Some (words_in n bytes) else None)

-- the four bytes of a word, the lowest first
unfoldable pub word_bytes : ℕ → List ℕ
word_bytes w = w % 256 ∷ w / 256 % 256 ∷ w / 65536 % 256 ∷ w / 16777216 % 256 ∷ []

-- words one after the other, as bytes
abbrev pub encoded : List ℕ → List ℕ
encoded words = flat_map word_bytes words
