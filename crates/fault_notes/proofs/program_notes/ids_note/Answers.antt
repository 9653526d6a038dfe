use Rattle.std.proofs.Common.{◌++◌, ◌∙◌}
use Rattle.std.specs.Prelude.{codes}
use Rattle.std.specs.Fmt.{decimal}
use Rattle.fault_notes.specs.ProgramNotes.{some}
use Rattle.fault_notes.proofs.program_notes.ids_note.Goals as goal

pub returns : goal.returns
returns c =
    some c.in-Some.most c.in-Some.ensures.most (c.in_ok-format-2.ensures.ok
    ∙ (λ i. codes "nbhd: " ++ (decimal c.args.rounds ++ (c.rounds_take-take.ensures i ++ (c.in_ok-range.ensures i
    ++ (codes " identifiers, not " ++ (decimal c.args.ids ++ codes "\n")))))))
