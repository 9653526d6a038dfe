use Rattle.std.proofs.Common.{◌≡◌, ◌+◌, ◌*◌, sym, ◌∙◌, arith, length}
use Rattle.win_index.specs.Windows.{windows}
use Rattle.ring_problems.specs.TupleLists.{per_pair}
use Rattle.ring_problems.proofs.PairSteps.{tuples_fit}
use Rattle.ring_problems.proofs.TupleParts.{tuple_count}
use Rattle.ring_problems.proofs.tuple_lists.tuple_count.Goals as goal

pub overflow_mul-result : goal.overflow_mul-result
overflow_mul-result c =
    let shape = c.args.shape in
    let same : c.tuples.result * c.tuples_per_pair.result
    ≡ length (windows (2 * shape.rounds + 1 + 1) shape.ids) * per_pair shape.ids shape.rounds c.args.problem.now =
    λ i. c.tuples.ensures.value i * c.tuples_per_pair.ensures i in
    omega (arith, same, tuples_fit shape c.args.problem.now)

pub returns : goal.returns
returns c =
    let shape = c.args.shape in
    (λ i. c.tuples.ensures.value i * c.tuples_per_pair.ensures i)
    ∙ sym (tuple_count shape.ids shape.rounds c.args.problem.now)
