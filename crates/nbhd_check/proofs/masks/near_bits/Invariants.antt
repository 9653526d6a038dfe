use Rattle.std.proofs.Common.{◌≡◌, ℕ, ◌+◌, ◌-◌, ◌%◌, ◌<◌, ◌≤◌}
use Rattle.std.specs.Int.{bit_at}
use Rattle.nbhd_check.proofs.masks.near_bits.Given as goal

-- the bits of the close channels below this one
abbrev pub invariant-loop-near : goal.invariant-loop-near
invariant-loop-near l = (c : ℕ) → l.channel + 1 - l.distance ≤ c → c < l.near → bit_at l.bits (c % 64) ≡ 1
