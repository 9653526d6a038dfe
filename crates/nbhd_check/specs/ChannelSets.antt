-- Words of channels: sets of 64 bits, bit c mod 64 for the channel c.
use Rattle.std.specs.Prelude.{◌≡◌, ℕ, ◌%◌, ◌<◌, List, length, slice_index}
use Rattle.nbhd_check.specs.declared.channel_sets.Words.{Words}
use Rattle.nbhd_check.specs.Masks.{HasBit}

-- one word has the bits of all channels of a list, the other one those that two channels of the list share
pub record HasWords (list : List ℕ) (words : Words) : Type 0 where
  pub once : (i : ℕ) → i < length list → HasBit words.once (slice_index list i)
  pub more : (i j : ℕ) → i < j → j < length list → slice_index list i % 64 ≡ slice_index list j % 64
      → HasBit words.more (slice_index list i)
