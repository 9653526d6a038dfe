use Rattle.std.proofs.Common.{refl, arith}
use Rattle.win_index.proofs.BucketPrefixNumbers.{prefix_has_places}
use Rattle.win_index.proofs.prefixes.Prefixes.places.Goals as goal

pub returns : goal.returns
returns c = λ window is has.
    let lists = c.args.self in
    prefix_has_places lists.len lists.ids window c.args.prefix _ lists.some is has refl refl
    (omega (arith, lists.some, lists.short))
