use Rattle.std.proofs.Common.{◌≡◌, [], ◌∙◌, length, refl, arith}
use Rattle.std.proofs.lemmas.List.Elements.{All-cons, All-nil}
use Rattle.shared_memo.specs.Outcomes.{outcome_worker, IsOutcome}
use Rattle.shared_memo.proofs.Workers.{only_ticket, one_numbered, match_result}
use Rattle.shared_memo.proofs.pool.run_alone.Goals as goal

pub returns : goal.returns
returns g c =
    let room = c.args.room in
    let count : length room.tickets.items ≡ 1 = omega (arith, room.tickets.ok.0, c.requires.count) in
    let first = c.fill-answer.ensures.worker
    ∙ only_ticket room.tickets.items c.pop.new.self.items c.in-Some.ticket c.requires.tickets.workers count
    c.in-Some.ensures.items in
    let items = rw c.requires.outcomes.empty at c.push_reserved.ensures.items in
    rw items (record {
      count = refl;
      numbers = one_numbered outcome_worker _ first;
      each = All-cons (IsOutcome (g.J.Jobs.HasFilled c.args.jobs.now) (g.J.Jobs.HasMetStranger c.args.jobs.now)) _ []
          (match_result _ _ c.fill-answer.result c.fill-answer.ensures.filled c.fill-answer.ensures.stranger)
          (All-nil _);
    })
