-- The registers of the places of a ring are within their bounds, round by round.
use Rattle.std.proofs.Common.{ℕ, zero, suc, ◌<◌, List, length, get_or, arith}
use Rattle.node_program.specs.Term.{ProgramTree}
use Rattle.node_program.specs.Bounds.{register_bounds, IsWithin}
use Rattle.node_program.specs.GlobalRounds.{left_of, right_of, state, channel_at}
use Rattle.std.proofs.Math.Nat.{mod-lt}
use Rattle.lang_check.specs.BoundLaws.{StartIsWithin, NextIsWithin, ChannelIsWithin}
use Rattle.lang_check.specs.Laws.{RegistersAreWithin, AcceptedChannelsAreBelow, ChannelsAreBelow}

module _ (start_is_within : StartIsWithin) (next_is_within : NextIsWithin) where
  -- all rounds
  states-within :
      (p : ProgramTree) (m : ℕ) (x : List ℕ) → ((i : ℕ) → i < length x → get_or x i 0 < m) → 0 < length x
      → (r i : ℕ) → i < length x
      → IsWithin (state p x r i) (register_bounds p m r)
  states-within p m x ids some zero i lt = start_is_within p m (get_or x i 0) (ids i lt)
  states-within p m x ids some (suc r) i lt =
      let left : left_of x i < length x = mod-lt _ some in
      let right : right_of x i < length x = mod-lt _ some in
      next_is_within p m r (state p x r (left_of x i)) (state p x r i) (state p x r (right_of x i))
      (states-within p m x ids some r (left_of x i) left) (states-within p m x ids some r i lt)
      (states-within p m x ids some r (right_of x i) right)

  pub registers_within : RegistersAreWithin
  registers_within p m x ring r i le lt = states-within p m x (λ j low. ring.below j 0 low) (omega (arith, lt)) r i lt

-- the channel after all rounds
module _ (channel_is_within : ChannelIsWithin) where
  pub channel_below : AcceptedChannelsAreBelow
  channel_below p m registers accepted h = omega (arith, channel_is_within p m registers h, accepted.bound)

module _ (registers_are_within : RegistersAreWithin) (channels_below : AcceptedChannelsAreBelow) where
  pub channels_within : ChannelsAreBelow
  unfolding channel_at
  channels_within p m x accepted ring i lt =
      channels_below p m (state p x (length p.steps) i) accepted
      (registers_are_within p m x ring (length p.steps) i (omega arith) lt)
