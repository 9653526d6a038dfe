use Rattle.std.proofs.Common.{◌≡◌, ◌+◌, ◌≤◌, All, vec_len, vec_capacity}
use Rattle.std.specs.Vec.Iter.{into_iter_items, into_iter_len}
use Rattle.shared_memo.specs.Tickets.{worker_of, AreNumbered, IsFreshTicketOf}
use Rattle.shared_memo.proofs.Numbered.{AreNumberedFrom}
use Rattle.shared_memo.proofs.pool.start_all.Given as goal

abbrev pub invariant-loop-ticket : goal.invariant-loop-ticket
invariant-loop-ticket g l = record {
  ready : All (IsFreshTicketOf l.desk) (into_iter_items l.ticket-iterator);
  room : vec_len l.handles + into_iter_len l.ticket-iterator ≤ vec_capacity l.handles;
  count : vec_len l.handles + into_iter_len l.ticket-iterator ≡ vec_len l.fn.draws.tickets;
  rest : AreNumberedFrom (vec_len l.handles) (into_iter_items l.ticket-iterator) worker_of;
  jobs : All (λ handle. handle.promise.jobs.value ≡ l.jobs) l.handles.items;
  workers : AreNumbered l.handles.items (λ handle. handle.promise.worker);
}
