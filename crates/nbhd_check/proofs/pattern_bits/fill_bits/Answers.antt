use Rattle.std.proofs.Common.{◌+◌, ◌-◌, ◌*◌, arith}
use Rattle.nbhd_check.proofs.PatternWords.{rows_more}
use Rattle.nbhd_check.proofs.pattern_bits.fill_bits.Goals as goal

pub loop-first-preserved : goal.loop-first-preserved
loop-first-preserved c =
    let l = c.loop-first in
    rows_more c.args.problem.now c.args.limit l.first (64 * l.first + 64 - 64 * l.first) l.bits c.fill_row.new.row l.invariant.0
    (omega (arith, c.loop-first-test.true, c.requires.limit)) (omega arith) c.fill_row.ensures.room l.invariant.1 c.fill_row.ensures.each
