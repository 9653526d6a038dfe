-- What a round reads of the message from the right.
use Rattle.std.specs.Prelude.{ℕ, Bool, true, false, ◌||◌, Option, Some, None, slice_get}
use Rattle.std.specs.List.{list_any}
use Rattle.node_program.specs.Term.{Term, RightMessage, One, Two, Choose, Round, ProgramTree}

-- whether an expression reads the message from the right
abbrev pub reads_right : Term → Bool
reads_right RightMessage = true
reads_right (One o a) = reads_right a
reads_right (Two o a b) = reads_right a || reads_right b
reads_right (Choose c a b) = reads_right c || (reads_right a || reads_right b)
reads_right _ = false

-- whether an assignment of a given round reads it; without a round, none does
abbrev pub assignments_read_right : Option Round → Bool
assignments_read_right None = false
assignments_read_right (Some s) = list_any reads_right s.next

-- whether an assignment of round k of a program reads the message from the right
unfoldable pub round_reads_right : ProgramTree → ℕ → Bool
round_reads_right p k = assignments_read_right (slice_get p.steps k)
