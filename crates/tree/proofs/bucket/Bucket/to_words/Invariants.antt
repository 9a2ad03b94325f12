use Rattle.std.proofs.Common.{◌≡◌, ◌*◌, length, take}
use Rattle.tree.specs.Places.{words_of}
use Rattle.tree.proofs.bucket.Bucket.to_words.Given as goal

-- the words of the places so far stand at the front
abbrev pub invariant-loop-i : goal.invariant-loop-i
invariant-loop-i l = (length l.words ≡ 40) × (take (10 * l.i) l.words ≡ words_of (take l.i l.self.places))
