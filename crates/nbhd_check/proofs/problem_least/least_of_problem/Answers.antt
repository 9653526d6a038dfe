use Rattle.std.proofs.Common.{◌+◌, ◌-◌, ◌*◌, ◌∙◌}
use Rattle.nbhd_check.proofs.PatternSteps.{none_by_first}
use Rattle.nbhd_check.proofs.problem_least.least_of_problem.Goals as goal

pub least_from-requires : goal.least_from-requires
least_from-requires g c =
    let t = c.args.tuples.windows.now in
    let ids = c.from.ensures ∙ c.ids.ensures ∙ c.shape-shape.ensures.ids in
    let rounds = c.from-2.ensures ∙ c.rounds.ensures ∙ c.shape-shape.ensures.rounds in
    none_by_first t c.args.tuples.problem.now c.first_windows-first.result _ c.first_windows-first.ensures
    (λ i. c.from-3.ensures i * (ids i - (2 * rounds i + 1)))
