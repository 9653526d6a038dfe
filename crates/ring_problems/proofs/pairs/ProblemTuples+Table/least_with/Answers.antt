use Rattle.std.proofs.Common.{◌≡◌, ◌+◌, ◌*◌, ap, arith, ◌∙◌}
use Rattle.std.proofs.lemmas.Option.{slice_get_within}
use Rattle.win_index.specs.Windows.{windows}
use Rattle.ring_problems.specs.TupleLists.{per_pair}
use Rattle.ring_problems.proofs.PairSteps.{next_none, pair_fits, pair_within}
use Rattle.ring_problems.proofs.pairs.ProblemTuples+Table.least_with.Goals as goal

pub returns-then-not-may_begin_bad : goal.returns-then-not-may_begin_bad
returns-then-not-may_begin_bad c =
    next_none c.args.self.windows.now c.args.self.problem.now c.args.number c.args.pair.now c.requires.item c.if-not-may_begin_bad.ensures

pub overflow_mul-low : goal.overflow_mul-low
overflow_mul-low c =
    let t = c.args.self.windows.now in
    let below = slice_get_within (windows (2 * t.rounds + 1 + 1) t.ids) c.args.number c.args.pair.now c.requires.item in
    let each : c.tuples_per_pair-each.result ≡ per_pair t.ids t.rounds c.args.self.problem.now =
    c.tuples_per_pair-each.ensures
    ∙ (λ i. per_pair (c.shape.ensures.ids i) (c.shape.ensures.rounds i) c.args.self.problem.now) in
    let fits = pair_fits c.shape.result t.ids t.rounds c.args.self.problem.now c.args.number c.shape.ensures.ids c.shape.ensures.rounds below in
    omega (arith, fits, ap (λ n. c.args.number * n) each)

pub overflow_add-low : goal.overflow_add-low
overflow_add-low c =
    let t = c.args.self.windows.now in
    let below = slice_get_within (windows (2 * t.rounds + 1 + 1) t.ids) c.args.number c.args.pair.now c.requires.item in
    let each : c.tuples_per_pair-each.result ≡ per_pair t.ids t.rounds c.args.self.problem.now =
    c.tuples_per_pair-each.ensures
    ∙ (λ i. per_pair (c.shape.ensures.ids i) (c.shape.ensures.rounds i) c.args.self.problem.now) in
    let fits = pair_fits c.shape.result t.ids t.rounds c.args.self.problem.now c.args.number c.shape.ensures.ids c.shape.ensures.rounds below in
    omega (arith, fits, ap (λ n. c.args.number * n) each, each)

pub least_bad-requires : goal.least_bad-requires
least_bad-requires c =
    let t = c.args.self.windows.now in
    let below = slice_get_within (windows (2 * t.rounds + 1 + 1) t.ids) c.args.number c.args.pair.now c.requires.item in
    let each : c.tuples_per_pair-each.result ≡ per_pair t.ids t.rounds c.args.self.problem.now =
    c.tuples_per_pair-each.ensures
    ∙ (λ i. per_pair (c.shape.ensures.ids i) (c.shape.ensures.rounds i) c.args.self.problem.now) in
    let within = pair_within t.ids t.rounds c.args.self.problem.now c.args.number below in
    omega (arith, within, ap (λ n. c.args.number * n) each, each)
