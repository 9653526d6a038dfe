use Rattle.std.proofs.Common.{◌≡◌, ℕ, ◌+◌, ◌-◌, length, get_or, take, drop, subst, ap, ◌∙◌, arith, length-drop}
use Rattle.std.proofs.lemmas.List.{get_or-drop, get_or-take, length-take-le}
use Rattle.nbhd_check.specs.Counts.{family_len}
use Rattle.nbhd_check.specs.Masks.{NoneClose}
use Rattle.nbhd_check.proofs.far_masks.FarMasks.free_in_series.Goals as goal

pub returns-clause-free : goal.returns-clause-free
returns-clause-free c i lt =
    let t = c.args.self.now.table.now in
    let first : ℕ = c.args.number in
    let count : ℕ = first + c.args.count - first in
    let entries = c.entries.result.now in
    let long = length-take-le count (drop first entries)
    (omega (arith, c.requires.windows, length-drop first entries, ap length c.entries.ensures.value)) in
    let read : get_or (take count (drop first entries)) i 0 ≡ get_or t.entries (first + i) 0 =
    get_or-take count (drop first entries) i 0 (omega (arith, lt, c.count_apart.ensures.few, long))
    ∙ get_or-drop first entries i 0
    ∙ ap (λ l. get_or l (first + i) 0) c.entries.ensures.value in
    subst (NoneClose t.entries (family_len t) c.args.self.now.distance (c.args.family + i)) read
    (c.count_apart.ensures.apart t.entries (family_len t) c.args.self.now.distance i (rw c.deref.ensures.value c.args.self.now.cover) lt)
