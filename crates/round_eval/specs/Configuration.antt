-- The configuration of a ring: the registers of its places after some rounds, and the numbers that it reports of each.
use Rattle.std.specs.Prelude.{◌≡◌, ℕ, ◌*◌, ◌<◌, ◌≤◌, List, length, slice_index, ⊤}
use Rattle.node_program.specs.Term.{ProgramTree}
use Rattle.node_program.specs.Node.{to_left, to_right, channel}
use Rattle.node_program.specs.GlobalRounds.{state}
use Rattle.round_eval.specs.Rows.{rows, stretch}
use Rattle.round_eval.specs.declared.configuration.Quantity.{Quantity}
use Rattle.round_eval.specs.declared.configuration.Quantity.TheVariants.{Register, Left, Right, Channel}

-- a ring that runs a program: its identifiers from place 0 on, and the number of rounds that are done. The registers of
-- its places follow from these
pub record RingConfiguration : Type 0 where
  pub program : ProgramTree
  pub places : List ℕ
  pub round : ℕ

-- for place i after the rounds that are done, in global rounds: the value of a register, the message to the left or to
-- the right in the next round, or the channel
abbrev pub quantity : RingConfiguration → Quantity → ℕ → ℕ
quantity c (Register j) i = slice_index (state c.program c.places c.round i) j
quantity c Left i = to_left c.program c.round (state c.program c.places c.round i)
quantity c Right i = to_right c.program c.round (state c.program c.places c.round i)
quantity c Channel i = channel c.program (state c.program c.places c.round i)

-- the program has the register, or a next round
abbrev pub CanRead : RingConfiguration → Quantity → Type 0
CanRead c (Register j) = j < length c.program.start
CanRead c Left = c.round < length c.program.steps
CanRead c Right = c.round < length c.program.steps
CanRead c Channel = ⊤

-- the invariant of a configuration, for the cells of its places and the number of its spare cells
pub record KeepsConfiguration (c : RingConfiguration) (cells : List ℕ) (spare : ℕ) : Type 0 where
  pub round : c.round ≤ length c.program.steps
  pub size : length cells ≡ length c.places * length c.program.start
  pub spare_size : spare ≡ length cells
  pub rows_are : rows (length c.program.start) (length c.places) cells
      ≡ stretch c.program c.places c.round 0 (length c.places)
