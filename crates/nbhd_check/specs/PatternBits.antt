-- Forbidden thirds as words: one for each two channels modulo 64 below a limit, in rows of 64.
use Rattle.std.specs.Prelude.{◌≡◌, ℕ, ◌+◌, ◌*◌, ◌%◌, ◌<◌, List, Some, length, slice_index}
use Rattle.ring_problems.specs.declared.pattern.Pattern.{Pattern}
use Rattle.ring_problems.specs.Patterns.{IsForbidden}
use Rattle.nbhd_check.specs.Masks.{HasBit}

-- the cell of two channels
abbrev pub cell_of : ℕ → ℕ → ℕ
cell_of first second = first % 64 * 64 + second % 64

-- a word for each cell, which has the bits of the channels that are forbidden after the two
pub record AreBits (problem : List Pattern) (limit : ℕ) (bits : List ℕ) : Type 0 where
  pub room : length bits ≡ 64 * 64
  pub each : (a b c : ℕ) → a % 64 < limit → b % 64 < limit → IsForbidden problem (Some a) (Some b) (Some c)
      → HasBit (slice_index bits (cell_of a b)) c
