use Rattle.std.proofs.Common.{◌≡◌, ◌+◌, ◌≤◌, None, Some, vec_len, vec_capacity}
use Rattle.ring_exec.specs.declared.fault.ThreadFault.TheVariants.{NoThread}
use Rattle.ring_exec.specs.Outcomes.{AreInOrder}
use Rattle.ring_exec.proofs.Falling.{AreJoined}
use Rattle.ring_exec.proofs.course.join_all.Given as goal

-- each turn joins the last thread. None of the threads was refused its start
abbrev pub invariant-loop-thread : goal.invariant-loop-thread
invariant-loop-thread g l = record {
  more : l.joined.fault ≡ None → AreJoined l.fn.joined (vec_len l.fn.threads) (vec_len l.threads) l.joined;
  in_order : AreInOrder (λ thread. thread.promise.0) l.threads.items;
  refused : l.joined.fault ≡ Some NoThread → l.fn.joined.fault ≡ Some NoThread;
  room : vec_len l.joined.segments + vec_len l.threads ≤ vec_capacity l.joined.segments;
}

abbrev pub decreases-loop-thread : goal.decreases-loop-thread
decreases-loop-thread g l = goal.left-loop-thread g l
