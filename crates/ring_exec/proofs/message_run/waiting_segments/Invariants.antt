use Rattle.std.proofs.Common.{◌≡◌, ◌-◌, ℕ, vec_len}
use Rattle.std.specs.Prelude.{IfSome, slice_get}
use Rattle.ring_exec.proofs.message_run.waiting_segments.Given as goal

-- the segments so far are the last ones, before their first round
abbrev pub invariant-loop-started : goal.invariant-loop-started
invariant-loop-started l = record {
  count : vec_len l.waiting ≡ l.started;
  opening : (i : ℕ) → IfSome (slice_get l.waiting.items i)
      (λ s. s ≡ record { plan = l.plan; ring = l.ring; segments = l.segments; index = l.segments - 1 - i; round = 0 });
}
