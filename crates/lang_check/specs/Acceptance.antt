-- Acceptance of programs for m identifiers.
use Rattle.std.specs.Prelude.{◌≡◌, ℕ, ◌<◌, false, None, length}
use Rattle.node_program.specs.Term.{ProgramTree}
use Rattle.node_program.specs.Bounds.{finish_bound}
use Rattle.win_index.specs.ShapeRange.{IsShape}
use Rattle.lang_check.specs.Misplaced.{first_missing_register, reads_id_outside_start, reads_message_outside_step}

-- the program is accepted for m identifiers
pub record IsAccepted (m : ℕ) (p : ProgramTree) : Type 0 where
  pub shape : IsShape m (length p.steps)
  pub registers : first_missing_register p ≡ None
  pub identifiers : reads_id_outside_start p ≡ false
  pub messages : reads_message_outside_step p ≡ false
  -- each channel is below the number of channels
  pub bound : finish_bound p m < p.channels
