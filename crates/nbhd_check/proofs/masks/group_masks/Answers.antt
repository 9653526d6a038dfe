use Rattle.std.proofs.Common.{ℕ, ◌/◌, ◌≤◌, length, drop, ◌∙◌, arith}
use Rattle.std.proofs.Math.Nat.{div-mul-le_self, mul-le-mul_right}
use Rattle.std.proofs.lemmas.List.{take_at}
use Rattle.nbhd_check.proofs.masks.group_masks.Goals as goal

pub fill_masks-requires-clause-room : goal.fill_masks-requires-clause-room
fill_masks-requires-clause-room g c =
    let entries : ℕ = length c.entries-entries.result.now in
    let few : length c.deref_mut.result.now ≤ entries / c.args.grouping.len =
    omega (arith, c.deref_mut.ensures.len, c.in-Ok.ensures.len) in
    omega (arith, mul-le-mul_right c.args.grouping.len few, div-mul-le_self entries c.args.grouping.len)

pub returns : goal.returns
returns g c =
    let masks = c.fill_masks.new.masks in
    let written = take_at masks (drop (length masks) c.in-Ok.masks.items) c.in-Ok.masks.len (c.fill_masks.auto.masks
    ∙ c.deref_mut.ensures.len) in
    rw (written, ← c.entries-entries.ensures.value) c.fill_masks.ensures
