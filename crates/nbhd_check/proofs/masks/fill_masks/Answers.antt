use Rattle.std.proofs.Common.{◌≡◌, ℕ, ◌+◌, ◌*◌, ◌<◌, List, length, get_or, drop, subst, ap, ◌∙◌, arith}
use Rattle.std.proofs.Math.Nat.{add-mul, mul-le-mul_right}
use Rattle.std.proofs.lemmas.List.{get_or-drop}
use Rattle.nbhd_check.specs.Masks.{AreMasks, Covers}
use Rattle.nbhd_check.proofs.masks.fill_masks.Goals as goal

pub for_each_chunk_mut-requires-clause-accepts : goal.for_each_chunk_mut-requires-clause-accepts
for_each_chunk_mut-requires-clause-accepts g c κs κs_f start part chunk =
    (c.requires.few, omega (arith, mul-le-mul_right c.args.grouping.len chunk.in_bounds, c.requires.room))

-- a mask of a part that begins with this group covers the channels of its group
covers : (entries part : List ℕ) (len distance start offset group place mask : ℕ) → start + offset ≡ group
    → AreMasks (drop (start * len) entries) len distance part → offset < length part → place < len
    → get_or part offset 0 ≡ mask
    → Covers mask distance (get_or entries (group * len + place) 0)
covers entries part len distance start offset group place mask sum are inside lt is =
    let at : start * len + (offset * len + place) ≡ group * len + place =
    omega (arith, add-mul start offset len, ap (λ n. n * len) sum) in
    let read : get_or (drop (start * len) entries) (offset * len + place) 0 ≡ get_or entries (group * len + place) 0 =
    get_or-drop (start * len) entries (offset * len + place) 0 ∙ ap (λ n. get_or entries n 0) at in
    subst (λ m. Covers m distance (get_or entries (group * len + place) 0)) is
    (subst (λ v. Covers (get_or part offset 0) distance v) read (are offset place inside lt))

pub returns : goal.returns
returns g c group place lt in_len =
    let call = (c.for_each_chunk_mut.ensures.by_index group 0 (omega (arith, lt))).1 in
    covers c.args.entries.now call.after_call.now c.args.grouping.len c.args.grouping.distance call.start call.offset group place _
    call.start_plus_offset call.call.1 (omega (arith, call.offset_in_chunk, call.call.0)) in_len call.new_element
