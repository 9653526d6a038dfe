use Rattle.std.proofs.Common.{rules, ◌≡◌, ◌+◌, vec_len, sym, subst, None, arith}
use Rattle.std.specs.Prelude.{IfOk}
use Rattle.ring_exec.proofs.Falling.{in_order_front, one_joined, AreJoined}
use Rattle.ring_exec.proofs.course.join_all.Goals as goal

pub loop-thread-preserved : goal.loop-thread-preserved
loop-thread-preserved g c =
    let inv = c.loop-thread.invariant in
    let split = in_order_front (λ thread. thread.promise.0) c.loop-thread.threads.items c.pop.new.self.items c.in-Some.thread c.in-Some.ensures.items inv.in_order in
    let left : vec_len c.pop.new.self + 1 ≡ vec_len c.loop-thread.threads = search rules in
    let index : IfOk c.join.result (λ segment. segment.index ≡ vec_len c.pop.new.self) =
    subst (λ n. IfOk c.join.result (λ segment. segment.index ≡ n)) (omega (arith, split.1, c.pop.new.self.ok.0)) c.join.ensures in
    record {
      more = one_joined c.args.joined c.loop-thread.joined c.add.new.self (vec_len c.args.threads)
          (vec_len c.pop.new.self) c.join.result c.add.ensures.added index
          (subst (λ n. c.loop-thread.joined.fault ≡ None
          → AreJoined c.args.joined (vec_len c.args.threads) n c.loop-thread.joined) (sym left) inv.more);
      in_order = split.0;
      refused = search rules;
      room = search rules;
    }
