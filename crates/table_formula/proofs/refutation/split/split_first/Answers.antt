use Rattle.std.proofs.Common.{arith}
use Rattle.table_formula.proofs.Splitting.{no_split, split_slices}
use Rattle.table_formula.proofs.refutation.split.split_first.Goals as goal

pub returns-then-byte-separator-clause-some : goal.returns-then-byte-separator-clause-some
returns-then-byte-separator-clause-some c =
    split_slices c.args.separator c.args.text.now c.loop-i.i c.loop-i-test.true c.loop-i.invariant c.if-byte-separator.true

pub returns-clause-none : goal.returns-clause-none
returns-clause-none c =
    no_split c.args.separator c.args.text.now
    (λ k within. c.loop-i.invariant k (omega (arith, c.loop-i-test.false, within)))
