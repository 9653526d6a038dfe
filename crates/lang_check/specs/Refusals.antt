-- Which refusal of a program comes first.
use Rattle.std.specs.Prelude.{◌≡◌, ℕ, ◌≤◌, false, IsTrue, Some, None, length}
use Rattle.node_program.specs.Term.{ProgramTree}
use Rattle.node_program.specs.Bounds.{finish_bound}
use Rattle.win_index.specs.ShapeRange.{IsShape}
use Rattle.win_index.specs.ShapeFaults.{IsFirstShapeFault}
use Rattle.win_index.specs.declared.shape.ShapeFault.TheVariants as shape
use Rattle.lang_check.specs.Misplaced.{first_missing_register, reads_id_outside_start, reads_message_outside_step}
use Rattle.lang_check.specs.declared.acceptance.CheckFault.{CheckFault}
use Rattle.lang_check.specs.declared.acceptance.CheckFault.TheVariants.{IdsOutOfRange, TooManyWindows}
use Rattle.lang_check.specs.declared.acceptance.CheckFault.TheVariants.{RegisterOutOfRange, IdOutsideStart}
use Rattle.lang_check.specs.declared.acceptance.CheckFault.TheVariants.{MessageOutsideStep, ChannelBound}

-- each refusal comes first only if those before it do not hold
abbrev pub IsFirstRefusal : ℕ → ProgramTree → CheckFault → Type 0
IsFirstRefusal m p IdsOutOfRange = IsFirstShapeFault m (length p.steps) shape.IdsOutOfRange
IsFirstRefusal m p TooManyWindows = IsFirstShapeFault m (length p.steps) shape.TooManyWindows
IsFirstRefusal m p (RegisterOutOfRange j) = IsShape m (length p.steps) × (first_missing_register p ≡ Some j)
IsFirstRefusal m p IdOutsideStart =
    IsShape m (length p.steps) × (first_missing_register p ≡ None) × IsTrue (reads_id_outside_start p)
IsFirstRefusal m p MessageOutsideStep =
    IsShape m (length p.steps) × (first_missing_register p ≡ None) × (reads_id_outside_start p ≡ false)
    × IsTrue (reads_message_outside_step p)
IsFirstRefusal m p (ChannelBound b) =
    IsShape m (length p.steps) × (first_missing_register p ≡ None) × (reads_id_outside_start p ≡ false)
    × (reads_message_outside_step p ≡ false) × (p.channels ≤ b) × (b ≡ finish_bound p m)
