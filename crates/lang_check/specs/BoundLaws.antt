-- The statements of the laws of this crate, one definition each.
use Rattle.std.specs.Prelude.{◌↔◌, ℕ, suc, ◌^◌, ◌<◌, ◌≤◌, List, length}
use Rattle.node_program.specs.Term.{ProgramTree}
use Rattle.node_program.specs.Node as rounds
use Rattle.node_program.specs.Bounds.{bits, finish_bound, register_bounds, IsWithin}

-- a number has at most k binary digits if and only if it is below 2^k
abbrev pub BinaryDigits : Type 0
BinaryDigits = (x k : ℕ) → (bits x ≤ k) ↔ (x < 2 ^ k)

-- the registers of a node with an identifier below m are within their bounds before the first round
abbrev pub StartIsWithin : Type 0
StartIsWithin = (p : ProgramTree) (m id : ℕ) → id < m → IsWithin (rounds.start p id) (register_bounds p m 0)

-- if three neighbouring nodes are within the bounds of r rounds, the middle one is within those of r+1 rounds after one
-- more
abbrev pub NextIsWithin : Type 0
NextIsWithin =
    (p : ProgramTree) (m r : ℕ) (left own right : List ℕ) → IsWithin left (register_bounds p m r)
    → IsWithin own (register_bounds p m r) → IsWithin right (register_bounds p m r)
    → IsWithin (rounds.next p r own (rounds.to_right p r left) (rounds.to_left p r right)) (register_bounds p m (suc r))

-- if the registers are within the bounds of all rounds, the channel is at most its bound
abbrev pub ChannelIsWithin : Type 0
ChannelIsWithin =
    (p : ProgramTree) (m : ℕ) (registers : List ℕ) → IsWithin registers (register_bounds p m (length p.steps))
    → rounds.channel p registers ≤ finish_bound p m
