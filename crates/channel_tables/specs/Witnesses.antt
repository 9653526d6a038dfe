-- The witness of a no: the least bad tuple, as a ring.
use Rattle.std.specs.Prelude.{◌≡◌, ℕ, ◌+◌, ◌⊎◌, List, Some}
use Rattle.win_index.specs.Arcs.{window_around}
use Rattle.channel_tables.specs.Tables.{ChannelTable, channel_of}
use Rattle.channel_tables.specs.declared.separation.Separation.{Separation}
use Rattle.channel_tables.specs.Apart.{AreClose, IsLeastBad}

-- the distance of the second place of a no from place t: 1 if the neighbours there are closer than near, else 2
abbrev pub IsStep : ChannelTable → Separation → List ℕ → ℕ → Type 0
IsStep t s ring step =
    let close = AreClose s.near (channel_of t (window_around ring t.rounds t.rounds))
    (channel_of t (window_around ring t.rounds (t.rounds + 1))) in
    (close × (step ≡ 1)) ⊎ ((¬ close) × (step ≡ 2))

-- the ring is the least bad tuple, and the two places, with their channels, are those at which it breaks the separation
pub record IsWitness (t : ChannelTable) (s : Separation) (ring : List ℕ) (places channels : ℕ × ℕ) : Type 0 where
  pub number : ℕ
  pub least : IsLeastBad t s 0 number ring
  pub step : ℕ
  pub step_is : IsStep t s ring step
  pub first_place : places.0 ≡ t.rounds
  pub second_place : places.1 ≡ t.rounds + step
  pub first_channel : channel_of t (window_around ring t.rounds places.0) ≡ Some channels.0
  pub second_channel : channel_of t (window_around ring t.rounds places.1) ≡ Some channels.1
