use Rattle.std.proofs.Common.{◌≡◌, ◌+◌, ◌≤◌, All, vec_len}
use Rattle.std.specs.Vec.{vec_capacity}
use Rattle.std.specs.Vec.Iter.{into_iter_items, into_iter_len}
use Rattle.shared_memo.specs.Outcomes.{outcome_worker, IsOutcome}
use Rattle.shared_memo.specs.Tickets.{AreNumbered}
use Rattle.shared_memo.proofs.Numbered.{AreNumberedFrom}
use Rattle.shared_memo.proofs.pool.join_all.Given as goal

abbrev pub invariant-loop-handle : goal.invariant-loop-handle
invariant-loop-handle g l = record {
  room : vec_len l.outcomes + into_iter_len l.handle-iterator ≤ vec_capacity l.outcomes;
  count : vec_len l.outcomes + into_iter_len l.handle-iterator ≡ vec_len l.fn.handles;
  rest : AreNumberedFrom (vec_len l.outcomes) (into_iter_items l.handle-iterator) (λ handle. handle.promise.worker);
  jobs : All (λ handle. handle.promise.jobs.value ≡ l._jobs) (into_iter_items l.handle-iterator);
  outcomes : All (IsOutcome (g.J.Jobs.HasFilled l._jobs) (g.J.Jobs.HasMetStranger l._jobs)) l.outcomes.items;
  workers : AreNumbered l.outcomes.items outcome_worker;
}
