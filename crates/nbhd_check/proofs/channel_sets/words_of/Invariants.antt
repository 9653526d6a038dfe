use Rattle.std.proofs.Common.{◌≡◌, ℕ, ◌%◌, ◌<◌, get_or}
use Rattle.nbhd_check.specs.Masks.{HasBit}
use Rattle.nbhd_check.proofs.channel_sets.words_of.Given as goal

-- the words have the bits of the channels so far
abbrev pub invariant-loop-channel : goal.invariant-loop-channel
invariant-loop-channel l =
    ((i : ℕ) → i < l.channel-index → HasBit l.once (get_or l.channels i 0))
    × ((i j : ℕ) → i < j → j < l.channel-index → get_or l.channels i 0 % 64 ≡ get_or l.channels j 0 % 64
    → HasBit l.more (get_or l.channels i 0))
