use Rattle.std.proofs.Common.{◌≡◌, ◌-◌, ◌<◌, ap, ◌∙◌, arith}
use Rattle.std.specs.List.{range_with_len}
use Rattle.rayon.proofs.ToStd.{nat_range-All}
use Rattle.rayon.specs.Numbers.{nat_range}
use Rattle.nbhd_check.proofs.LeastOfParts.{least_of}
use Rattle.nbhd_check.proofs.parallel.least_of_parts.Goals as goal

pub min-requires-clause-ready : goal.min-requires-clause-ready
min-requires-clause-ready g c κs within =
    let ends = c.into_par_iter.ensures in
    let each = nat_range-All (λ i. i < c.args.parts) 0 c.args.parts (λ i low high. high) in
    rw (c.map.ensures.base, c.map.ensures.f, c.with_min_len.ensures.base, ends.0, ends.1)
    (λ k d lt. (c.requires.each _ (each k d lt), λ y p. tt))

pub returns : goal.returns
returns g c part lt =
    let ends = c.into_par_iter.ensures in
    let n = c.args.parts in
    let found = c.min.ensures in
    let chain = rw (c.map.ensures.base, c.map.ensures.f, c.with_min_len.ensures.base) at found.1 in
    let whole : n - 0 ≡ n = omega arith in
    let places = chain.1 ∙ (λ i. nat_range (ends.0 i) (ends.1 i)) ∙ ap (range_with_len 0) whole in
    let least = least_of (λ i value. g.F.Fn.post c.args.search (i, tt) value) n chain.0 found.0 c.min.result places chain.2 found.2 part lt in
    (least.0, least.1, omega (arith, least.2, c.unwrap_or.ensures))
