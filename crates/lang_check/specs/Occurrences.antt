-- What an expression reads, and where the expressions of a program stand.
use Rattle.std.specs.Prelude.{ℕ, Bool, true, false, ◌||◌, List, [], ◌∷◌, ◌++◌}
use Rattle.node_program.specs.Term.{Term, Identifier, LeftMessage, RightMessage, RegisterValue, One, Two, Choose, Round}
use Rattle.node_program.specs.Term.{ProgramTree, step_terms}

-- the numbers of the registers that an expression reads, from left to right
abbrev pub registers_read : Term → List ℕ
registers_read (RegisterValue j) = j ∷ []
registers_read (One o a) = registers_read a
registers_read (Two o a b) = registers_read a ++ registers_read b
registers_read (Choose c a b) = registers_read c ++ (registers_read a ++ registers_read b)
registers_read _ = []

-- whether an expression reads the node's identifier
abbrev pub reads_identifier : Term → Bool
reads_identifier Identifier = true
reads_identifier (One o a) = reads_identifier a
reads_identifier (Two o a b) = reads_identifier a || reads_identifier b
reads_identifier (Choose c a b) = reads_identifier c || (reads_identifier a || reads_identifier b)
reads_identifier _ = false

-- whether an expression reads a message, from the left or from the right
abbrev pub reads_message : Term → Bool
reads_message LeftMessage = true
reads_message RightMessage = true
reads_message (One o a) = reads_message a
reads_message (Two o a b) = reads_message a || reads_message b
reads_message (Choose c a b) = reads_message c || (reads_message a || reads_message b)
reads_message _ = false

-- the expressions of a program outside its start, in reading order
abbrev pub terms_after_start : ProgramTree → List Term
terms_after_start p = step_terms p.steps ++ p.finish ∷ []

-- the expressions sent in the rounds
abbrev pub sent_terms : List Round → List Term
sent_terms [] = []
sent_terms (s ∷ ss) = s.left ∷ s.right ∷ sent_terms ss

-- the expressions of a program outside the assignments of its rounds, in reading order
abbrev pub terms_outside_assignments : ProgramTree → List Term
terms_outside_assignments p = p.start ++ (sent_terms p.steps ++ p.finish ∷ [])
