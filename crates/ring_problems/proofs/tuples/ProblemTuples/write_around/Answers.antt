use Rattle.std.proofs.Common.{drop, refl, arith}
use Rattle.ring_problems.proofs.Arounds.{around_closed, around_open, around_ring, around_windows}
use Rattle.ring_problems.proofs.tuples.ProblemTuples.write_around.Goals as goal

pub returns-then-len-out-clause-ring : goal.returns-then-len-out-clause-ring
returns-then-len-out-clause-ring g c =
    let t = g.W.Windows.table c.args.self.windows.now in
    let rest = drop c.len-len.result c.args.out.now in
    around_ring t.ids t.rounds c.args.self.problem.now c.write.new.out _ c.write.ensures.tuple
    (around_closed t.ids t.rounds _ c.len-len.result c.args.self.problem.now c.write.new.out rest c.write.ensures.tuple
    (omega arith) c.len-len.ensures.length (omega arith) refl)

pub returns-then-len-out-clause-windows : goal.returns-then-len-out-clause-windows
returns-then-len-out-clause-windows g c step le =
    let t = g.W.Windows.table c.args.self.windows.now in
    let rest = drop c.len-len.result c.args.out.now in
    around_windows t.ids t.rounds step c.args.self.problem.now c.write.new.out _
    (around_closed t.ids t.rounds _ c.len-len.result c.args.self.problem.now c.write.new.out rest c.write.ensures.tuple
    (omega arith) c.len-len.ensures.length (omega arith) refl) le

pub returns-else-len-out-clause-ring : goal.returns-else-len-out-clause-ring
returns-else-len-out-clause-ring g c =
    let t = g.W.Windows.table c.args.self.windows.now in
    around_ring t.ids t.rounds c.args.self.problem.now c.write.new.out _ c.write.ensures.tuple
    (around_open t.ids t.rounds c.args.self.problem.now c.write.new.out (drop c.len-len.result c.args.out.now) c.write.ensures.tuple
    (omega arith) (omega arith))

pub returns-else-len-out-clause-windows : goal.returns-else-len-out-clause-windows
returns-else-len-out-clause-windows g c step le =
    let t = g.W.Windows.table c.args.self.windows.now in
    around_windows t.ids t.rounds step c.args.self.problem.now c.write.new.out _
    (around_open t.ids t.rounds c.args.self.problem.now c.write.new.out (drop c.len-len.result c.args.out.now) c.write.ensures.tuple
    (omega arith) (omega arith)) le
