use Rattle.std.proofs.Common.{◌≡◌, ℕ, ◌+◌, ◌-◌, ◌*◌, ◌<◌, ◌≤◌, length, get_or, set, take, drop, subst, sym, ap, ◌∙◌}
use Rattle.std.proofs.Common.{arith, ⊎_elim, length-drop, length-set}
use Rattle.std.proofs.Math.Nat.{mul-le-mul_right}
use Rattle.std.proofs.lemmas.Bool.{cases_lt}
use Rattle.std.proofs.lemmas.List.{get_or-take, get_or-drop, get_or-set_same, get_or-set_other, length-take-le}
use Rattle.nbhd_check.specs.Masks.{Covers}
use Rattle.nbhd_check.proofs.Cells.{row_more}
use Rattle.nbhd_check.proofs.masks.fill_part.Goals.{In-loop-group}
use Rattle.nbhd_check.proofs.masks.fill_part.Goals as goal

-- the channels of the group are among the entries
within : (c : In-loop-group)
    → c.loop-group.group * c.args.grouping.len + c.args.grouping.len ≤ length c.args.entries.now
within c =
    let more : c.loop-group.group + 1 ≤ length c.args.masks.now =
    omega (arith, c.loop-group-test.true, c.loop-group.auto.group-end) in
    omega (arith, mul-le-mul_right c.args.grouping.len more, row_more c.loop-group.group c.args.grouping.len, c.requires.room)

pub overflow_mul-start : goal.overflow_mul-start
overflow_mul-start c = omega (arith, within (goal.at.overflow_mul-start c).In-loop-group)

pub overflow_add-start : goal.overflow_add-start
overflow_add-start c = omega (arith, within (goal.at.overflow_add-start c).In-loop-group)

pub offset_bounds-entries-start : goal.offset_bounds-entries-start
offset_bounds-entries-start c = omega (arith, within (goal.at.offset_bounds-entries-start c).In-loop-group)

pub slice_bounds-mask_of-end : goal.slice_bounds-mask_of-end
slice_bounds-mask_of-end c = within (goal.at.slice_bounds-mask_of-end c).In-loop-group

pub loop-group-preserved : goal.loop-group-preserved
loop-group-preserved c =
    let entries = c.args.entries.now in
    let len : ℕ = c.args.grouping.len in
    let own : ℕ = c.loop-group.group in
    let start : ℕ = own * len in
    let list = drop start entries in
    let inside = within (goal.at.loop-group-preserved c).In-loop-group in
    let long = length-take-le (start + len - start) list (omega (arith, inside, length-drop start entries)) in
    let masks = c.loop-group.masks in
    let mask : ℕ = c.mask_of.result in
    let room = c.loop-group.invariant.0 in (
      length-set masks own mask ∙ room,
      λ group place lt in_len. ⊎_elim
          (λ (before : group < own).
          let other : get_or (set masks own mask) group 0 ≡ get_or masks group 0 =
          get_or-set_other masks own group mask 0 (λ e. omega (arith, before, e)) in
          subst (λ m. Covers m c.args.grouping.distance (get_or entries (group * len + place) 0)) (sym other)
          (c.loop-group.invariant.1 group place before in_len))
          (λ (here : own ≤ group).
          let same : group ≡ own = omega (arith, here, lt) in
          let in_list : place < start + len - start = omega (arith, in_len) in
          let read : get_or (take (start + len - start) list) place 0 ≡ get_or entries (group * len + place) 0 =
          get_or-take (start + len - start) list place 0 in_list ∙ get_or-drop start entries place 0
          ∙ ap (λ g. get_or entries (g * len + place) 0) (sym same) in
          let new : get_or (set masks own mask) group 0 ≡ mask =
          ap (λ g. get_or (set masks own mask) g 0) same
          ∙ get_or-set_same masks own mask 0
          (omega (arith, room, c.loop-group-test.true, c.loop-group.auto.group-end)) in
          subst (λ m. Covers m c.args.grouping.distance (get_or entries (group * len + place) 0)) (sym new)
          (subst (λ v. Covers mask c.args.grouping.distance v) read (c.mask_of.ensures place (omega (arith, long, in_list)))))
          (cases_lt group own),
    )
