use Rattle.std.proofs.Common.{◌-◌, take, arith}
use Rattle.win_index.proofs.Numbers.{windows_all}
use Rattle.win_index.proofs.Sizes.{some_window}
use Rattle.win_index.proofs.Writing.{only_window, front_below, rest_below, written}
use Rattle.win_index.proofs.arrangement.+write_list.Goals as goal

pub returns-then-len-eq0-clause-item : goal.returns-then-len-eq0-clause-item
returns-then-len-eq0-clause-item t c =
    only_window c.args.len c.args.ids c.args.number c.args.list.now c.if-len-eq0.true c.requires.below

pub returns-then-len-eq0-clause-window : goal.returns-then-len-eq0-clause-window
returns-then-len-eq0-clause-window t c = windows_all _ _ _ _ (returns-then-len-eq0-clause-item t c)

pub write_list-requires : goal.write_list-requires
write_list-requires t c =
    let front = front_below c.args.len c.args.ids (c.args.len - 1) c.args.number (omega arith) c.requires.below in
    (omega arith, (omega arith, rw c.from.ensures front))

pub nth_unused-requires-clause-place : goal.nth_unused-requires-clause-place
nth_unused-requires-clause-place t c =
    let last = c.args.len - 1 in
    let left = some_window c.args.len c.args.ids c.args.number c.requires.below in
    rw c.from.ensures (rest_below c.args.ids last c.args.number _ (take last c.write_list.new.list)
    c.write_list.ensures.item (omega arith))

pub returns-clause-item : goal.returns-clause-item
returns-clause-item t c =
    let last = c.args.len - 1 in
    let front = rw c.from.ensures at c.write_list.ensures.item in
    let rest = rw c.from.ensures at c.nth_unused.ensures in
    written c.args.len c.args.ids last c.args.number c.nth_unused.result c.write_list.new.list (omega arith)
    (omega arith) front rest

pub returns-clause-window : goal.returns-clause-window
returns-clause-window t c = windows_all _ _ _ _ (returns-clause-item t c)
