use Rattle.std.proofs.Common.{arith}
use Rattle.nbhd_check.proofs.Buckets.{free_of_both}
use Rattle.nbhd_check.proofs.far.free_by_masks.Goals as goal

pub returns-then-free-most : goal.returns-then-free-most
returns-then-free-most g c =
    free_of_both c.args.tuples.windows.now c.args.tuples.separation c.args.near.windows c.free_windows-free.result
    c.free_windows-free.result
    c.requires.search.near c.free_windows-free.ensures.free c.free_windows-free.ensures.less (omega arith)

pub invariant_of-search : goal.invariant_of-search
invariant_of-search g c =
    record { some = c.requires.search.some.0; cover = c.family_masks-masks.ensures }
