use Rattle.std.proofs.Common.{◌+◌, ◌-◌, ◌*◌, ◌%◌, length, get_or, arith}
use Rattle.std.proofs.lemmas.List.FromFn.{fill_by_all}
use Rattle.win_index.proofs.ring.Ring.window_at.Goals as goal

pub returns-clause-window : goal.returns-clause-window
returns-clause-window c =
    let x = c.args.self.now.places in
    let filled = rw c.ids-ids.ensures.value at c.loop-k.invariant in
    let place = c.args.place in
    let level = c.args.level in
    fill_by_all (λ k. get_or x ((place + length x - level + k) % length x) 0) c.loop-k.out
    (2 * level + 1) 0 (omega arith)
    (λ k lt. filled k (omega arith))
