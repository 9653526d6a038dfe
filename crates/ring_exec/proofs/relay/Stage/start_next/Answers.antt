use Rattle.std.proofs.Common.{rules, ◌≡◌, ◌+◌, vec_len, ap}
use Rattle.ring_exec.proofs.Falling.{next_waiting}
use Rattle.ring_exec.proofs.relay.Stage.start_next.Goals as goal

pub returns-clause-started : goal.returns-clause-started
returns-clause-started g c =
    let old = c.args.progress.now in
    let new = c.keep.new.self in
    let index : new.index ≡ old.index + 1 = search rules in
    let threads : vec_len new.threads ≡ vec_len old.threads + 1 = search rules in
    record {
      taken = record { waiting = search rules; joined = search rules };
      index = index;
      thread = threads;
      next = next_waiting old.index (vec_len old.threads) new.index (vec_len new.threads) old.waiting.items c.pop.new.self.items new.waiting.items
          c.in-Some.segment c.in-Some.ensures.items index threads (ap (λ v. v.items) c.keep.ensures.rest.0) c.requires.next.next;
    }
