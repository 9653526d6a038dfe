use Rattle.std.proofs.Common.{◌≡◌, ◌%◌, length, get_or, sym, ap, ◌∙◌}
use Rattle.std.proofs.lemmas.Bool.{OnFalse_from, false≢true, ltb-true}
use Rattle.std.proofs.lemmas.List.{get_or_default}
use Rattle.std.specs.Int.{bit_at}
use Rattle.nbhd_check.specs.Masks.{HasBit, NoneClose}
use Rattle.nbhd_check.proofs.masks.may_hold.Goals as goal

pub returns-in-Some : goal.returns-in-Some
returns-in-Some c entries len distance are =
    let mask = c.in-Some.mask.now in
    let found = c.in-Some.ensures.lookup in
    let within = ltb-true c.args.group (length c.args.masks.now) (sym found.0) in
    let own : mask ≡ get_or c.args.masks.now c.args.group 0 =
    found.1 ∙ get_or_default c.args.masks.now c.args.group mask 0 within in
    OnFalse_from c.has_bit.result (NoneClose entries len distance c.args.group c.args.channel) (λ no place lt close.
    let set : HasBit mask c.args.channel =
    ap (λ m. bit_at m (c.args.channel % 64)) own ∙ are c.args.group place within lt c.args.channel close in
    false≢true (sym no ∙ c.has_bit.ensures.1 set))

pub returns-in-None : goal.returns-in-None
returns-in-None c entries len distance are = tt
