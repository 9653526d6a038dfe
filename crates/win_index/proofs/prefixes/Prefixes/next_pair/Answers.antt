use Rattle.std.proofs.Common.{get_or, refl}
use Rattle.win_index.proofs.BucketPrefixNumbers.{pair_is, pair_numbers, two_items}
use Rattle.win_index.proofs.prefixes.Prefixes.next_pair.Goals as goal

pub write_next-requires : goal.write_next-requires
write_next-requires c =
    rw (pair_is c.args.self.ids c.requires.list c.args.prefix c.requires.has) at c.requires.has.window

pub returns-then-not-write_next-clause-last : goal.returns-then-not-write_next-clause-last
returns-then-not-write_next-clause-last c =
    λ list has. rw (pair_is c.args.self.ids list c.args.prefix has) c.if-not-write_next.ensures.last

pub returns-clause-next : goal.returns-clause-next
returns-clause-next c = λ list has.
    let new = c.write_next.new.list in
    let whole = two_items new c.write_next.ensures.window.size in
    let old = pair_is c.args.self.ids list c.args.prefix has in (
      new,
      rw old c.if-not-write_next.ensures.next,
      rw whole (pair_numbers c.args.self.ids (get_or new 0 0) (get_or new 1 0) _
          (rw whole at c.write_next.ensures.window) refl refl refl refl),
    )
