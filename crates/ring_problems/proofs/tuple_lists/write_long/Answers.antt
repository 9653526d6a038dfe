use Rattle.std.proofs.Common.{◌≡◌, ◌+◌, ◌*◌, Some, sym, ap, ◌∙◌, subst, arith, drop, length}
use Rattle.std.proofs.lemmas.Option.{slice_get_within}
use Rattle.win_index.specs.Windows.{windows, IsWindow}
use Rattle.win_index.proofs.Windows.{back_window}
use Rattle.ring_problems.proofs.TupleParts.{cut, back_below, written, middle_is, middle_at, over_rest}
use Rattle.ring_problems.proofs.tuple_lists.write_long.Goals as goal

pub tuple-requires-clause-below : goal.tuple-requires-clause-below
tuple-requires-clause-below c =
    (cut c.args.shape.ids c.args.shape.rounds c.args.number c.tuples_per_pair-each.result c.args.problem.now c.requires.long c.tuples_per_pair-each.ensures
    c.requires.below).front

pub window_number-middle-requires-clause-window : goal.window_number-middle-requires-clause-window
window_number-middle-requires-clause-window c =
    let shape = c.args.shape in
    let pair = c.tuple.new.out in
    let window = c.tuple.ensures.tuple in
    let len : length pair ≡ 2 * c.rounds.result + 2 = omega (arith, window.size, c.rounds.ensures) in
    let middle = middle_is (2 * c.rounds.result + 2) pair (drop (2 * c.rounds.result + 2) c.args.out.now) len
    (omega arith) in
    let level : 2 * shape.rounds + 1 ≡ 2 * c.rounds-2.result + 1 = omega (arith, c.rounds-2.ensures) in
    subst (λ list. IsWindow (2 * c.rounds-2.result + 1) shape.ids list) (sym middle)
    (subst (λ n. IsWindow n shape.ids (drop 1 pair)) level (back_window (2 * shape.rounds + 1) shape.ids pair window))

pub tuple-requires-2-clause-below : goal.tuple-requires-2-clause-below
tuple-requires-2-clause-below c =
    let shape = c.args.shape in
    let pair = c.tuple.new.out in
    back_below shape.ids shape.rounds c.args.number c.tuples_per_pair-each.result c.from.result
    (cut c.args.shape.ids c.args.shape.rounds c.args.number c.tuples_per_pair-each.result c.args.problem.now c.requires.long c.tuples_per_pair-each.ensures
    c.requires.below)
    (slice_get_within (windows (2 * shape.rounds + 1) shape.ids) c.from.result (drop 1 pair)
    (middle_at shape.ids shape.rounds c.rounds-2.result (2 * c.rounds.result + 2) c.window_number-middle.result c.from.result pair
    (drop (2 * c.rounds.result + 2) c.args.out.now) c.tuple.ensures.tuple c.rounds-2.ensures
    (omega (arith, c.rounds.ensures)) c.from.ensures
    c.window_number-middle.ensures.item))

pub returns : goal.returns
returns c =
    let shape = c.args.shape in
    let pair = c.tuple.new.out in
    let window = c.tuple.ensures.tuple in
    let size = window.size in
    let new = c.tuple-2.new.out in
    record {
      item =
          written shape.ids shape.rounds c.args.number c.tuples_per_pair-each.result c.from.result c.args.problem.now pair new c.requires.long
          (cut c.args.shape.ids c.args.shape.rounds c.args.number c.tuples_per_pair-each.result c.args.problem.now c.requires.long c.tuples_per_pair-each.ensures
          c.requires.below)
          c.tuple.ensures.item (middle_at shape.ids shape.rounds c.rounds-2.result (2 * c.rounds.result + 2) c.window_number-middle.result c.from.result pair
          (drop (2 * c.rounds.result + 2) c.args.out.now) c.tuple.ensures.tuple c.rounds-2.ensures
          (omega (arith, c.rounds.ensures)) c.from.ensures
          c.window_number-middle.ensures.item) c.tuple-2.ensures.item
          ∙ ap Some (sym (over_rest pair (drop (2 * c.rounds.result + 2) c.args.out.now) new (omega arith)));
    }
