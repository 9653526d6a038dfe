use Rattle.std.proofs.Common.{length, refl, rules}
use Rattle.border_exchange.specs.SegmentCounts.{IsSegmentCount}
use Rattle.reports.specs.Findings.{of_segments}
use Rattle.reports.specs.Report.{told}
use Rattle.plan_print.proofs.answer.channels_answer.Goals as goal

-- The ring can't be run in so many segments.
pub returns-in-None-clause-answer : goal.returns-in-None-clause-answer
returns-in-None-clause-answer g c =
    let count = length c.args.ring.now.places in
    let out : ¬ IsSegmentCount c.args.segments count = search rules in
    told (of_segments c.args.segments count) (out, refl) c.segments_refusal.ensures
