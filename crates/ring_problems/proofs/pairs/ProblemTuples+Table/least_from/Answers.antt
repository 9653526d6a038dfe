use Rattle.std.proofs.Common.{◌≡◌, ◌≤◌, ◌<◌, ◌+◌, ◌*◌, length, arith}
use Rattle.win_index.specs.Windows.{windows}
use Rattle.ring_problems.specs.TupleLists.{per_pair, tuples_below}
use Rattle.ring_problems.proofs.PairSteps.{least_here, pair_within, pairs_over}
use Rattle.ring_problems.proofs.pairs.ProblemTuples+Table.least_from.Goals as goal

pub returns-then-low-pairs : goal.returns-then-low-pairs
returns-then-low-pairs c n tuple low lt item =
    let t = c.args.self.windows.now in
    let shape = c.shape-shape.result in
    let same : length (windows (2 * shape.rounds + 1 + 1) shape.ids) ≡ length (windows (2 * t.rounds + 1 + 1) t.ids) =
    λ i. length (windows (2 * c.shape-shape.ensures.rounds i + 1 + 1) (c.shape-shape.ensures.ids i)) in
    let all : length (windows (2 * t.rounds + 1 + 1) t.ids) ≤ c.args.low =
    omega (arith, c.if-low-pairs.true, c.tuples-pairs.ensures.value, same) in
    c.requires n tuple low (omega (arith, lt, pairs_over t.ids t.rounds c.args.self.problem.now c.args.low all)) item

pub returns-in-Some : goal.returns-in-Some
returns-in-Some c =
    let t = c.args.self.windows.now in
    let shape = c.shape-shape.result in
    let problem = c.args.self.problem.now in
    let number = c.loop-number.number in
    let each = per_pair t.ids t.rounds problem in
    let same : length (windows (2 * shape.rounds + 1 + 1) shape.ids) ≡ length (windows (2 * t.rounds + 1 + 1) t.ids) =
    λ i. length (windows (2 * c.shape-shape.ensures.rounds i + 1 + 1) (c.shape-shape.ensures.ids i)) in
    let below : number < length (windows (2 * t.rounds + 1 + 1) t.ids) =
    omega (arith, c.loop-number-test.true, c.tuples-pairs.ensures.value, same) in
    least_here t problem (number * each) (number * each + each) (length (tuples_below t.ids t.rounds problem)) c.in-Some.found
    c.loop-number.invariant.2 (pair_within t.ids t.rounds problem number below) c.in-Some.ensures

pub returns : goal.returns
returns c n tuple low lt item =
    let t = c.args.self.windows.now in
    let shape = c.shape-shape.result in
    let same : length (windows (2 * shape.rounds + 1 + 1) shape.ids) ≡ length (windows (2 * t.rounds + 1 + 1) t.ids) =
    λ i. length (windows (2 * c.shape-shape.ensures.rounds i + 1 + 1) (c.shape-shape.ensures.ids i)) in
    let all : length (windows (2 * t.rounds + 1 + 1) t.ids) ≤ c.loop-number.number =
    omega (arith, c.loop-number-test.false, c.tuples-pairs.ensures.value, same) in
    c.loop-number.invariant.2 n tuple low
    (omega (arith, lt, pairs_over t.ids t.rounds c.args.self.problem.now c.loop-number.number all)) item
