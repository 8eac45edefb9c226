use Rattle.std.proofs.Common.{◌≡◌, take}
use Rattle.words.specs.Words.{encoded}
use Rattle.words.proofs.encode.Given as goal

abbrev pub invariant-loop-word : goal.invariant-loop-word
invariant-loop-word l = l.bytes.items ≡ encoded (take l.word-index l.words)
