use Rattle.std.proofs.Common.{◌-◌, take, refl, ap, ◌∙◌, arith}
use Rattle.win_index.proofs.Sizes.{window_within}
use Rattle.win_index.proofs.Successors.{last_of_none, shorter_window, next_with_later_front, last_with_last_front}
use Rattle.win_index.proofs.Successors.{next_is_window, later_lacks}
use Rattle.win_index.proofs.arrangement.+write_next.Goals as goal

pub returns-then-len-eq0-clause-replaced : goal.returns-then-len-eq0-clause-replaced
returns-then-len-eq0-clause-replaced t c = record {
  next = tt;
  last = last_of_none c.args.len c.args.ids (take c.args.len c.args.list.now) c.if-len-eq0.true;
  same = refl;
  window = c.requires.window;
}

pub write_next-requires : goal.write_next-requires
write_next-requires t c = (
  omega arith,
  (
    omega arith,
    rw c.if-write_next_last.ensures.none.1
        (shorter_window c.args.len c.args.ids (c.args.len - 1) c.args.list.now (omega arith) c.requires.window),
  ),
)

pub returns-then-not-write_next-clause-replaced : goal.returns-then-not-write_next-clause-replaced
returns-then-not-write_next-clause-replaced t c =
    let same = c.if-not-write_next.ensures.same ∙ c.if-write_next_last.ensures.none.1 in
    record {
      next = tt;
      last = last_with_last_front c.args.len c.args.ids (c.args.len - 1) c.args.list.now (omega arith) (omega arith)
          c.if-write_next_last.ensures.none.0
          (rw c.if-write_next_last.ensures.none.1 at c.if-not-write_next.ensures.replaced.last);
      same = ap (take c.args.len) same;
      window = rw same c.requires.window;
    }

pub nth_unused-requires-clause-place : goal.nth_unused-requires-clause-place
nth_unused-requires-clause-place t c =
    let last = c.args.len - 1 in
    let front = shorter_window c.args.len c.args.ids last c.args.list.now (omega arith) c.requires.window in
    let within = window_within _ _ _ c.requires.window in
    later_lacks last c.args.ids (take last c.args.list.now) (take last c.write_next.new.list) (omega arith) front
    (rw c.if-write_next_last.ensures.none.1 at c.if-not-write_next.ensures.replaced.next)

pub returns-clause-replaced : goal.returns-clause-replaced
returns-clause-replaced t c =
    let next = next_with_later_front c.args.len c.args.ids (c.args.len - 1) c.nth_unused.result c.args.list.now
    c.write_next.new.list (omega arith) (omega arith)
    (omega arith) c.if-write_next_last.ensures.none.0
    (rw c.if-write_next_last.ensures.none.1 at c.if-not-write_next.ensures.replaced.next) c.nth_unused.ensures in
    record {
      next = next;
      last = tt;
      same = tt;
      window = next_is_window c.args.len c.args.ids (take c.args.len c.args.list.now) _ c.requires.window next;
    }
