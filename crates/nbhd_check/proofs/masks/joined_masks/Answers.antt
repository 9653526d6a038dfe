use Rattle.std.proofs.Common.{◌≡◌, ℕ, ◌+◌, ◌*◌, ◌/◌, ◌%◌, ◌<◌, ◌≤◌, List, length, get_or, drop, subst, ◌∙◌, arith}
use Rattle.std.proofs.Math.Nat.{div-lt_iff_lt-mul, div-mul-le_self, mod-lt, mul-le-mul_right}
use Rattle.std.proofs.lemmas.List.{take_at}
use Rattle.std.proofs.lemmas.Nat.{div-add-mod'}
use Rattle.std.specs.Int.{abs_diff}
use Rattle.nbhd_check.specs.Masks.{AreMasks, HasBitsOf}
use Rattle.nbhd_check.proofs.Cells.{row_more}
use Rattle.nbhd_check.proofs.masks.joined_masks.Goals as goal

-- joined masks of groups are masks of the groups that are joined
joined_cover : (entries masks joined : List ℕ) (len distance count : ℕ) → length joined * count ≤ length masks
    → AreMasks entries len distance masks
    → ((group place : ℕ) → group < length joined → place < count
    → HasBitsOf (get_or joined group 0) (get_or masks (group * count + place) 0))
    → AreMasks entries (count * len) distance joined
joined_cover entries masks joined len distance count room are has group place made inside channel close =
    let positive : 0 < len = grind (arith, inside) in
    let part : ℕ = place / len in
    let rest : ℕ = place % len in
    let part_in : part < count = (div-lt_iff_lt-mul positive).1 inside in
    let own : ℕ = group * count + part in
    let more : group + 1 ≤ length joined = omega (arith, made) in
    let own_made : own < length masks =
    omega (arith, mul-le-mul_right count more, row_more group count, room, part_in) in
    let at : group * (count * len) + place ≡ own * len + rest = omega (arith, div-add-mod' place len) in
    has group part made part_in (channel % 64)
    (are own rest own_made (mod-lt place positive) channel (subst (λ n. abs_diff channel (get_or entries n 0) < distance) at close))

pub join_masks-requires : goal.join_masks-requires
join_masks-requires c =
    let few : length c.deref_mut.result.now ≤ length c.args.masks.now / c.args.count =
    omega (arith, c.deref_mut.ensures.len, c.in-Ok.ensures.len) in
    omega (arith, mul-le-mul_right c.args.count few, div-mul-le_self (length c.args.masks.now) c.args.count)

pub returns : goal.returns
returns c entries distance are =
    let joined = c.join_masks.new.joined in
    let written = take_at joined (drop (length joined) c.in-Ok.joined.items) c.in-Ok.joined.len
    (c.join_masks.auto.joined ∙ c.deref_mut.ensures.len) in
    let few : length joined ≤ length c.args.masks.now / c.args.count =
    omega (arith, c.join_masks.auto.joined, c.deref_mut.ensures.len, c.in-Ok.ensures.len) in
    let room : length joined * c.args.count ≤ length c.args.masks.now =
    omega (arith, mul-le-mul_right c.args.count few, div-mul-le_self (length c.args.masks.now) c.args.count) in
    rw written (joined_cover entries c.args.masks.now joined c.args.len distance c.args.count room are c.join_masks.ensures)
