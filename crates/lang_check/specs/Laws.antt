-- The statements of the laws of this crate, one definition each.
use Rattle.std.specs.Prelude.{◌≡◌, ℕ, ◌<◌, ◌≤◌, List, length}
use Rattle.node_program.specs.Term.{ProgramTree}
use Rattle.node_program.specs.Node as rounds
use Rattle.node_program.specs.GlobalRounds.{state, channel_at}
use Rattle.win_index.specs.Ring.{IsRing}
use Rattle.node_program.specs.Bounds.{register_bounds, IsWithin}
use Rattle.lang_check.specs.Acceptance.{IsAccepted}
use Rattle.lang_check.specs.Refusals.{IsFirstRefusal}
use Rattle.lang_check.specs.declared.acceptance.CheckFault.{CheckFault}

-- on every ring and after each round, the registers of each place are within their bounds
abbrev pub RegistersAreWithin : Type 0
RegistersAreWithin =
    (p : ProgramTree) (m : ℕ) (x : List ℕ) → IsRing m (length p.steps) x → (r i : ℕ) → r ≤ length p.steps
    → i < length x → IsWithin (state p x r i) (register_bounds p m r)

-- if the registers are within the bounds of all rounds of an accepted program, the channel is below the number of
-- channels
abbrev pub AcceptedChannelsAreBelow : Type 0
AcceptedChannelsAreBelow =
    (p : ProgramTree) (m : ℕ) (registers : List ℕ) → IsAccepted m p
    → IsWithin registers (register_bounds p m (length p.steps)) → rounds.channel p registers < p.channels

-- on every ring, each channel of an accepted program is below the number of channels
abbrev pub ChannelsAreBelow : Type 0
ChannelsAreBelow =
    (p : ProgramTree) (m : ℕ) (x : List ℕ) → IsAccepted m p → IsRing m (length p.steps) x → (i : ℕ) → i < length x
    → channel_at p x i < p.channels

-- a program has at most one first refusal for m identifiers
abbrev pub OneRefusal : Type 0
OneRefusal = (m : ℕ) (p : ProgramTree) (f g : CheckFault) → IsFirstRefusal m p f → IsFirstRefusal m p g → f ≡ g

-- an accepted one has none
abbrev pub AcceptedProgramsHaveNoRefusal : Type 0
AcceptedProgramsHaveNoRefusal = (m : ℕ) (p : ProgramTree) (f : CheckFault) → IsAccepted m p → IsFirstRefusal m p f → ⊥
