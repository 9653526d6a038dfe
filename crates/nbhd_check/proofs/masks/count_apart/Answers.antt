use Rattle.std.proofs.Common.{◌≡◌, ℕ, ◌+◌, ◌-◌, ◌<◌, length, get_or, take, drop, subst, sym, ◌∙◌, arith}
use Rattle.std.proofs.lemmas.List.{get_or-drop, get_or-take}
use Rattle.nbhd_check.specs.Masks.{HasBit}
use Rattle.nbhd_check.proofs.masks.count_apart.Goals as goal

pub returns-clause-apart : goal.returns-clause-apart
returns-clause-apart c entries len distance place are lt i in_len close =
    let group : ℕ = c.args.group in
    let masks = c.args.masks.now in
    let count : ℕ = length c.args.channels.now in
    let within : place < group + count - group = omega (arith, lt, c.count_without_bits.ensures.few) in
    let mask : get_or masks (group + place) 0 ≡ get_or (take (group + count - group) (drop group masks)) place 0 =
    sym (get_or-take (group + count - group) (drop group masks) place 0 within ∙ get_or-drop group masks place 0) in
    c.count_without_bits.ensures.lack place lt
    (subst (λ m. HasBit m (get_or c.args.channels.now place 0)) mask
    (are (group + place) i (omega (arith, lt, c.count_without_bits.ensures.few, c.if-masks-end.false)) in_len (get_or c.args.channels.now place 0) close))
