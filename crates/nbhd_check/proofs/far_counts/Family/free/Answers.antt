use Rattle.std.proofs.Common.{arith}
use Rattle.nbhd_check.proofs.FarFree.{first_two}
use Rattle.nbhd_check.proofs.far_counts.Family.free.Goals as goal

pub returns-clause-free : goal.returns-clause-free
returns-clause-free c = λ number window below item own.
    let first = first_two c.args.self.table.now number window c.args.self.some.0 item in
    c.loop-first.invariant.1 number window below item (omega arith, own)
