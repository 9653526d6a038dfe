use Rattle.table_text.proofs.Headers.{sizes_are}
use Rattle.table_text.proofs.lines.sizes.Goals as goal

pub returns-in_err-shape-clause-none : goal.returns-in_err-shape-clause-none
returns-in_err-shape-clause-none c = rw c.from_residual-in_err-shape.ensures (λ has.
    let read = c.in_ok-counts.ensures in
    let are = sizes_are c.args.version c.args.text.now _ _ _ _ _ read.fit read.counts c.counts_end.ensures.end has in
    c.in_err-shape.ensures.none are.0)

pub returns-in_err-separation-clause-none : goal.returns-in_err-separation-clause-none
returns-in_err-separation-clause-none c = rw c.from_residual-in_err-separation.ensures (λ has.
    let read = c.in_ok-counts.ensures in
    let are = sizes_are c.args.version c.args.text.now _ _ _ _ _ read.fit read.counts c.counts_end.ensures.end has in
    c.in_err-separation.ensures.none are.1 are.2 are.3 are.4)
