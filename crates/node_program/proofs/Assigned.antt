-- Each round of a program assigns each register.
use Rattle.std.proofs.Common.{◌≡◌, List, map, length, get_or, sym, ◌∙◌}
use Rattle.std.specs.List.{All}
use Rattle.std.proofs.lemmas.List.{length-map}
use Rattle.std.proofs.Math.ListN.{get_or-map}
use Rattle.node_program.specs.Term.{ProgramTree, step_of, term_of}
use Rattle.node_program.specs.Limits.{IsWithinLimits}
use Rattle.node_program.specs.declared.tree.Round.{Round}

pub each_assigned : (p : ProgramTree) (rounds : List Round) → IsWithinLimits p → map step_of rounds ≡ p.steps
    → All (λ r. length r.next.items ≡ length p.start) rounds
each_assigned p rounds limits same i d below =
    let each : All (λ s. length s.next ≡ length p.start) (map step_of rounds) = rw same limits.each_register in
    let here = each i (step_of d) (rw length-map below) in
    sym (length-map (get_or rounds i d).next.items term_of) ∙ (rw (get_or-map step_of rounds i d) at here)
