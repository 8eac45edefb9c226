use Rattle.std.proofs.Common.{◌≡◌, ℕ, ◌*◌, ◌<◌, ◌≤◌, length, slice_index}
use Rattle.words.specs.Words.{word_at}
use Rattle.words.proofs.first.Given as goal

-- the words so far are read, and the bytes go as far
abbrev pub invariant-loop-place : goal.invariant-loop-place
invariant-loop-place g l =
    (length l.word-items ≡ g.row.N)
    × (4 * l.place ≤ length l.bytes)
    × ((k : ℕ) → k < l.place → slice_index l.word-items k ≡ word_at l.bytes (4 * k))
