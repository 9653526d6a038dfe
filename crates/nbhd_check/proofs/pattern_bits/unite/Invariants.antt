use Rattle.std.proofs.Common.{◌≡◌, ℕ, ◌<◌, length, slice_index}
use Rattle.nbhd_check.specs.Masks.{HasBitsOf}
use Rattle.nbhd_check.proofs.pattern_bits.unite.Given as goal

-- the words have their own bits, and so far those of the others
abbrev pub invariant-loop-place : goal.invariant-loop-place
invariant-loop-place l =
    (length l.words ≡ length l.initial.words)
    × ((i : ℕ) → i < length l.initial.words → HasBitsOf (slice_index l.words i) (slice_index l.initial.words i))
    × ((i : ℕ) → i < l.place → HasBitsOf (slice_index l.words i) (slice_index l.others i))
