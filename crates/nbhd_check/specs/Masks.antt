-- Masks of channels: sets of bits in words of 64, one for each group of consecutive windows. A mask with more bits than
-- those of the group's channels covers these too.
use Rattle.std.specs.Prelude.{◌≡◌, ℕ, ◌+◌, ◌*◌, ◌%◌, ◌<◌, List, length, slice_index}
use Rattle.std.specs.Int.{abs_diff, bit_at}

-- the mask has the bit of the channel: bit c mod 64 for the channel c
abbrev pub HasBit : ℕ → ℕ → Type 0
HasBit mask channel = bit_at mask (channel % 64) ≡ 1

-- the mask has all bits of the other one
abbrev pub HasBitsOf : ℕ → ℕ → Type 0
HasBitsOf mask other = (bit : ℕ) → bit_at other bit ≡ 1 → bit_at mask bit ≡ 1

-- the mask has the bits of all channels that are closer to this one than the distance: bit c mod 64 for the channel c
abbrev pub Covers : ℕ → ℕ → ℕ → Type 0
Covers mask distance channel = (c : ℕ) → abs_diff c channel < distance → bit_at mask (c % 64) ≡ 1

-- each mask covers the channels of its group: those of the first groups of `len` windows with these channels
abbrev pub AreMasks : List ℕ → ℕ → ℕ → List ℕ → Type 0
AreMasks entries len distance masks =
    (group place : ℕ) → group < length masks → place < len
    → Covers (slice_index masks group) distance (slice_index entries (group * len + place))

-- no channel of the group is closer to this one than the distance
abbrev pub NoneClose : List ℕ → ℕ → ℕ → ℕ → ℕ → Type 0
NoneClose entries len distance group channel =
    (place : ℕ) → place < len → ¬ (abs_diff channel (slice_index entries (group * len + place)) < distance)
