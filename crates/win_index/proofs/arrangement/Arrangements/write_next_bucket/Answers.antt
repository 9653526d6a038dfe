use Rattle.std.proofs.Common.{◌-◌, take, arith, rules}
use Rattle.std.proofs.lemmas.Bool.{not-true}
use Rattle.win_index.specs.Windows.{is_used}
use Rattle.win_index.proofs.FrontPlaces.{window_front, window_with}
use Rattle.win_index.proofs.Kept.{kept_is}
use Rattle.win_index.proofs.Sizes.{window_within}
use Rattle.win_index.proofs.Successors.{next_bucket, last_bucket, later_lacks}
use Rattle.win_index.proofs.Unused.{lacks}
use Rattle.win_index.proofs.arrangement.Arrangements.write_next_bucket.Goals as goal

pub returns-then-not-write_next : goal.returns-then-not-write_next
returns-then-not-write_next c =
    let len = c.args.self.len in
    record {
      next = search rules;
      last = λ list ends.
          last_bucket len c.args.self.ids (len - 1) list (omega arith) ends.last_is ends.none_larger
          (rw ends.same c.if-not-write_next.ensures.replaced.last);
      same = c.if-not-write_next.ensures.same;
      window = rw c.if-not-write_next.ensures.same c.requires.window;
    }

pub nth_unused-least-requires-clause-place : goal.nth_unused-least-requires-clause-place
nth_unused-least-requires-clause-place c =
    let len = c.args.self.len in
    let ids = c.args.self.ids in
    let list = c.args.list.now in
    let within = window_within _ _ _ c.requires.window in
    later_lacks (len - 1) ids (take (len - 1) list) (take (len - 1) c.write_next.new.list) (omega arith)
    (window_front (len - 1) len ids list (omega arith) c.requires.window) c.if-not-write_next.ensures.replaced.next

pub returns : goal.returns
returns c =
    let len = c.args.self.len in
    let ids = c.args.self.ids in
    let size = c.requires.window.size in
    let later = c.write_next.new.list in
    let y = c.nth_unused-least.result in
    let front = take (len - 1) later in
    let kept = kept_is (lacks front) ids 0 y c.nth_unused-least.ensures in
    record {
      next = λ list ends.
          next_bucket len ids (len - 1) list (omega arith) ends.last_is later y (omega arith) ends.none_larger
          (rw ends.same c.if-not-write_next.ensures.replaced.next) c.nth_unused-least.ensures;
      last = search rules;
      same = search rules;
      window = window_with (len - 1) len ids y later (omega arith)
          (omega arith) c.if-not-write_next.ensures.replaced.window
          kept.below (not-true (is_used front y) kept.passes);
    }
