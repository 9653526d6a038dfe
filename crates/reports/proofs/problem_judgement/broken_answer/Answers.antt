use Rattle.std.proofs.Common.{◌≡◌, ap, ◌∙◌}
use Rattle.ring_problems.specs.Demands.{patterns_of}
use Rattle.ring_problems.specs.Idle.{idle_in}
use Rattle.reports.specs.Findings as value
use Rattle.reports.proofs.problem_judgement.broken_answer.Goals as goal

pub returns : goal.returns
returns c =
    let w = c.args.witness in
    let idle : c.first_idle.result ≡ idle_in (patterns_of c.args.problem.now) c.args.channels =
    c.first_idle.ensures ∙ ap (λ patterns. idle_in patterns c.args.channels) c.patterns.ensures in
    λ i. value.broken w.ring.items w.place w.channels w.pattern (c.known.ensures i) (idle i)
