use Rattle.std.proofs.Common.{◌≡◌, ◌+◌, ◌-◌, ◌*◌, arith}
use Rattle.std.proofs.lemmas.List.{get_or-take}
use Rattle.win_index.proofs.FrontPlaces.{slice_window, part_front}
use Rattle.win_index.proofs.shape.Shape.bucket_prefix.Goals as goal

pub number-requires : goal.number-requires
number-requires c =
    let low = c.args.below in
    let len : 2 * low + 2 - 2 ≡ 2 * low = omega arith in
    rw (c.lists.ensures.len, c.lists.ensures.ids, len) (slice_window c.args.self.now.ids (2 * low + 3) 2 (2 * low)
    c.args.window.now c.requires.window (omega arith))

pub returns : goal.returns
returns c =
    let low = c.args.below in
    let m = c.args.self.now.ids in
    let w = c.args.window.now in
    let places = c.bucket_places-places.ensures in
    let one : 2 * low + 2 - 1 ≡ 2 * low + 1 = omega arith in
    let two : 2 * low + 2 - 2 ≡ 2 * low = omega arith in
    let front : 2 * low + 1 + 1 ≡ 2 * low + 2 = omega arith in
    let took_one = part_front 1 (2 * low + 2) (2 * low + 1) w (omega arith) in
    let took_two = part_front 2 (2 * low + 2) (2 * low) w (omega arith) in
    record {
      window = slice_window m (2 * low + 3) 0 (2 * low + 2) w c.requires.window (omega arith);
      middle = rw (one, ← took_one) (rw one at c.window_number.ensures.item);
      last = rw (two, ← took_two) (rw (c.lists.ensures.len, c.lists.ensures.ids, two) at c.number.ensures.item);
      first_gap = rw (get_or-take (2 * low + 2) w 0 0 (omega arith)) (rw front at places.first);
      second_gap = rw (get_or-take (2 * low + 2) w 1 0 (omega arith)) (rw front at places.second);
    }
