use Rattle.std.proofs.Common.{◌≡◌, ℕ, zero, suc, ◌-◌, true, List, [], ◌∷◌, ◌++◌, length, length-append, sym, ◌∙◌}
use Rattle.std.proofs.Common.{ap, arith}
use Rattle.std.specs.Prelude.{IfSome, slice_get}
use Rattle.std.specs.Result.{is_ok}
use Rattle.border_exchange.specs.Segments.{RingSegment}
use Rattle.ring_exec.proofs.message_run.waiting_segments.Goals as goal

-- each element is that of its index, after one more too
each_pushed : {X : Type 0} (f : ℕ → X) (xs : List X) (x : X) → ((i : ℕ) → IfSome (slice_get xs i) (λ s. s ≡ f i))
    → x ≡ f (length xs) → (i : ℕ) → IfSome (slice_get (xs ++ x ∷ []) i) (λ s. s ≡ f i)
each_pushed f [] x each made zero = made
each_pushed f [] x each made (suc i) = tt
each_pushed f (y ∷ ys) x each made zero = each zero
each_pushed f (y ∷ ys) x each made (suc i) = each_pushed (λ k. f (suc k)) ys x (λ k. each (suc k)) made i

pub loop-started-preserved : goal.loop-started-preserved
loop-started-preserved c =
    let f : ℕ → RingSegment = λ i. record {
      plan = c.args.plan.now;
      ring = c.args.ring.now;
      segments = c.args.segments;
      index = c.args.segments - 1 - i;
      round = 0;
    } in
    let items = c.loop-started.waiting.items in
    let segment = c.in_ok-segment.segment in
    let held = c.loop-started.invariant in
    let size : length items ≡ c.loop-started.started = omega (arith, held.count, c.loop-started.waiting.ok) in
    let ok : is_ok c.push.result ≡ true = c.if-is_err.ensures.negation in
    let pushed = rw ok at c.push.ensures.items in
    record {
      count = omega (arith, size, c.push.new.self.ok, ap length pushed, length-append items (segment ∷ []));
      opening = rw pushed (each_pushed f items segment held.opening (c.in_ok-segment.ensures ∙ ap f (sym size)));
    }

pub returns-clause-opening : goal.returns-clause-opening
returns-clause-opening c = c.loop-started.invariant.opening
