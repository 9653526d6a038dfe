use Rattle.std.proofs.Common.{rules, arith, ◌≡◌, vec_len}
use Rattle.std.proofs.lemmas.List.Elements.{All-push, All-nil}
use Rattle.std.specs.Vec.Iter.{into_iter_items}
use Rattle.shared_memo.specs.Outcomes.{outcome_worker, IsOutcome}
use Rattle.shared_memo.proofs.Numbered.{numbered_rest}
use Rattle.shared_memo.proofs.Workers.{all_first}
use Rattle.win_index.proofs.Windows.{each_snoc}
use Rattle.shared_memo.proofs.pool.join_all.Goals as goal

pub loop-handle-preserved : goal.loop-handle-preserved
loop-handle-preserved g c =
    let inv = c.loop-handle.invariant in
    let steps = c.in-Some.ensures.steps.0 in
    let jobs = all_first (λ h. h.promise.jobs.value ≡ c.args._jobs.now) c.in-Some.handle _ _ steps inv.jobs in
    let numbers = numbered_rest (λ h. h.promise.worker) _ c.in-Some.handle _ _ steps inv.rest in
    record {
      room = search rules;
      count = search rules;
      rest = rw c.push_reserved.ensures.len numbers.1;
      jobs = jobs.1;
      outcomes = rw c.push_reserved.ensures.items
          (All-push (IsOutcome (g.J.Jobs.HasFilled c.args._jobs.now) (g.J.Jobs.HasMetStranger c.args._jobs.now)) c.loop-handle.outcomes.items c.join.result inv.outcomes
          (rw jobs.0 at c.join.ensures.1));
      workers = rw c.push_reserved.ensures.items
          (each_snoc (λ k outcome. outcome_worker outcome ≡ k) c.loop-handle.outcomes.items c.join.result inv.workers
          (let kept = c.join.ensures in let first = numbers.0 in search rules));
    }

pub loop-handle-init : goal.loop-handle-init
loop-handle-init g c =
    let gives : into_iter_items c.into_iter-handle-iterator.result ≡ c.args.handles.items = search rules in
    let none : vec_len c.args.outcomes ≡ 0 = search rules in
    record {
      room = search rules;
      count = search rules;
      rest = rw gives (λ k w at. omega (arith, none, c.requires.workers k w at));
      jobs = rw gives c.requires.jobs;
      outcomes = rw c.requires.outcomes.empty (All-nil _);
      workers = search rules;
    }
