use Rattle.std.proofs.Common.{◌≡◌, ℕ, ◌+◌, ◌-◌, ◌*◌, ◌<◌, ◌≤◌, length, get_or, set, take, drop, subst, sym, ap, ◌∙◌}
use Rattle.std.proofs.Common.{arith, ⊎_elim, length-drop, length-set}
use Rattle.std.proofs.Math.Nat.{mul-le-mul_right}
use Rattle.std.proofs.lemmas.Bool.{cases_lt}
use Rattle.std.proofs.lemmas.List.{get_or-take, get_or-drop, get_or-set_same, get_or-set_other, length-take-le}
use Rattle.nbhd_check.specs.Masks.{HasBitsOf}
use Rattle.nbhd_check.proofs.Cells.{row_more}
use Rattle.nbhd_check.proofs.masks.join_masks.Goals.{In-loop-group}
use Rattle.nbhd_check.proofs.masks.join_masks.Goals as goal

-- the masks of the groups are among all masks
within : (c : In-loop-group) → c.loop-group.group * c.args.count + c.args.count ≤ length c.args.masks.now
within c =
    let more : c.loop-group.group + 1 ≤ length c.args.joined.now =
    omega (arith, c.loop-group-test.true, c.loop-group.auto.group-end) in
    omega (arith, mul-le-mul_right c.args.count more, row_more c.loop-group.group c.args.count, c.requires)

pub overflow_mul-start : goal.overflow_mul-start
overflow_mul-start c = omega (arith, within (goal.at.overflow_mul-start c).In-loop-group)

pub overflow_add-start : goal.overflow_add-start
overflow_add-start c = omega (arith, within (goal.at.overflow_add-start c).In-loop-group)

pub offset_bounds-masks-start : goal.offset_bounds-masks-start
offset_bounds-masks-start c = omega (arith, within (goal.at.offset_bounds-masks-start c).In-loop-group)

pub slice_bounds-union_of-end : goal.slice_bounds-union_of-end
slice_bounds-union_of-end c = within (goal.at.slice_bounds-union_of-end c).In-loop-group

pub loop-group-preserved : goal.loop-group-preserved
loop-group-preserved c =
    let masks = c.args.masks.now in
    let count : ℕ = c.args.count in
    let own : ℕ = c.loop-group.group in
    let start : ℕ = own * count in
    let list = drop start masks in
    let inside = within (goal.at.loop-group-preserved c).In-loop-group in
    let long = length-take-le (start + count - start) list (omega (arith, inside, length-drop start masks)) in
    let joined = c.loop-group.joined in
    let mask : ℕ = c.union_of.result in
    let room = c.loop-group.invariant.0 in (
      length-set joined own mask ∙ room,
      λ group place lt in_count. ⊎_elim
          (λ (before : group < own).
          let other : get_or (set joined own mask) group 0 ≡ get_or joined group 0 =
          get_or-set_other joined own group mask 0 (λ e. omega (arith, before, e)) in
          subst (λ m. HasBitsOf m (get_or masks (group * count + place) 0)) (sym other)
          (c.loop-group.invariant.1 group place before in_count))
          (λ (here : own ≤ group).
          let same : group ≡ own = omega (arith, here, lt) in
          let in_list : place < start + count - start = omega (arith, in_count) in
          let read : get_or (take (start + count - start) list) place 0 ≡ get_or masks (group * count + place) 0 =
          get_or-take (start + count - start) list place 0 in_list ∙ get_or-drop start masks place 0
          ∙ ap (λ g. get_or masks (g * count + place) 0) (sym same) in
          let new : get_or (set joined own mask) group 0 ≡ mask =
          ap (λ g. get_or (set joined own mask) g 0) same
          ∙ get_or-set_same joined own mask 0
          (omega (arith, room, c.loop-group-test.true, c.loop-group.auto.group-end)) in
          subst (λ m. HasBitsOf m (get_or masks (group * count + place) 0)) (sym new)
          (subst (HasBitsOf mask) read (c.union_of.ensures place (omega (arith, long, in_list)))))
          (cases_lt group own),
    )
