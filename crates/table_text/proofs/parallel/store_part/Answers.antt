use Rattle.std.proofs.Common.{length, arith}
use Rattle.std.proofs.Math.Nat.{mul-le-mul_right, add-mul}
use Rattle.table_text.proofs.parallel.store_part.Goals as goal

pub store-requires-clause-fits : goal.store-requires-clause-fits
store-requires-clause-fits c =
    let start = c.args.start in
    let count = length c.args.part.now in
    let size = c.args.lines.size in
    omega (arith, c.requires.fits, mul-le-mul_right size c.requires.within, add-mul start count size)
