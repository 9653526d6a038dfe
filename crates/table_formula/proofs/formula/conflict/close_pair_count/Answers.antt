use Rattle.std.proofs.Common.{ap, arith, length-append}
use Rattle.std.specs.List.{flat_map, range_with_len}
use Rattle.std.specs.Prelude.{length}
use Rattle.table_formula.specs.Formula.{close_to}
use Rattle.table_formula.proofs.ClauseLists.{flat_more}
use Rattle.table_formula.proofs.formula.conflict.close_pair_count.Goals as goal

pub loop-first-preserved : goal.loop-first-preserved
loop-first-preserved c =
    let first = c.loop-first.first in
    record {
      counted = λ step.
          let close = close_to c.args.channels step c.args.distance in
          omega (
            arith,
            c.loop-first.invariant.counted step,
            c.from-count.ensures,
            c.close_count.ensures.value step,
            ap length (flat_more close first),
            length-append (flat_map close (range_with_len 0 first)) (close first),
          );
      few = omega (arith, c.loop-first.invariant.few, c.from-count.ensures, c.close_count.ensures.few);
    }
