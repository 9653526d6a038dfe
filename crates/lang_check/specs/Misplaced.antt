-- What a program reads that it must not: a register that it does not have, an identifier or a message in the wrong
-- place, a register whose bound is too large for the channels.
use Rattle.std.specs.Prelude.{ℕ, Bool, Option, length, find, flat_map, nat_le, slice_index}
use Rattle.std.specs.List.{list_any}
use Rattle.node_program.specs.Term.{ProgramTree, terms}
use Rattle.node_program.specs.Bounds.{register_bounds}
use Rattle.lang_check.specs.Occurrences.{registers_read, reads_identifier, reads_message}
use Rattle.lang_check.specs.Occurrences.{terms_after_start, terms_outside_assignments}

-- the first register in reading order that the program does not have
abbrev pub first_missing_register : ProgramTree → Option ℕ
first_missing_register p = find (λ j. nat_le (length p.start) j) (flat_map registers_read (terms p))

-- whether the identifier is read outside the start
abbrev pub reads_id_outside_start : ProgramTree → Bool
reads_id_outside_start p = list_any reads_identifier (terms_after_start p)

-- whether a message is read outside the assignments of a round
abbrev pub reads_message_outside_step : ProgramTree → Bool
reads_message_outside_step p = list_any reads_message (terms_outside_assignments p)

-- the first register that `finish` reads whose bound after the last round is not below the number of channels
abbrev pub register_over_channels : ProgramTree → ℕ → Option ℕ
register_over_channels p m =
    find (λ j. nat_le p.channels (slice_index (register_bounds p m (length p.steps)) j)) (registers_read p.finish)
