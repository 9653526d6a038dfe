use Rattle.std.proofs.Common.{rules, ◌≡◌}
use Rattle.std.proofs.lemmas.List.Elements.{All-push}
use Rattle.shared_memo.specs.Tickets.{worker_of, IsFreshTicketOf}
use Rattle.shared_memo.proofs.Numbered.{numbered_rest}
use Rattle.shared_memo.proofs.Workers.{all_first}
use Rattle.win_index.proofs.Windows.{each_snoc}
use Rattle.shared_memo.proofs.pool.start_all.Goals as goal

pub loop-ticket-preserved : goal.loop-ticket-preserved
loop-ticket-preserved g c =
    let steps = c.in-Some.ensures.steps.0 in
    let inv = c.loop-ticket.invariant in
    let numbers = numbered_rest worker_of _ c.in-Some.ticket _ _ steps inv.rest in
    record {
      ready = (all_first (IsFreshTicketOf c.args.draws.desk.now) c.in-Some.ticket _ _ steps inv.ready).1;
      room = search rules;
      count = search rules;
      rest = rw c.push_reserved.ensures.len numbers.1;
      jobs = rw c.push_reserved.ensures.items
          (All-push (λ handle. handle.promise.jobs.value ≡ c.args.jobs.now) c.loop-ticket.handles.items _ inv.jobs (search rules));
      workers = rw c.push_reserved.ensures.items
          (each_snoc (λ k handle. handle.promise.worker ≡ k) c.loop-ticket.handles.items _ inv.workers
          (let number = numbers.0 in search rules));
    }
