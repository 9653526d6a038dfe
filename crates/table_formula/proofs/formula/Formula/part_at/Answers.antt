use Rattle.std.proofs.Common.{◌≡◌, ◌+◌, ◌-◌, ◌*◌, ◌<◌, length, take, drop, sym, ap, subst, arith}
use Rattle.std.proofs.lemmas.Option.{slice_get_within}
use Rattle.win_index.specs.Windows.{windows, IsWindow}
use Rattle.ring_problems.proofs.Problems.{tuple_window}
use Rattle.table_formula.specs.Problems.{Problem}
use Rattle.table_formula.specs.Formula.{windows_of}
use Rattle.table_formula.proofs.formula.Formula.part_at.Goals as goal

pub window_number-requires-clause-window : goal.window_number-requires-clause-window
window_number-requires-clause-window c =
    let p = c.args.self.now in
    let f = c.self.inside in
    let rest = drop c.args.offset c.args.tuple.now in
    let ids : f.shape.ids ≡ p.ids = ap (λ (q : Problem). q.ids) c.self.view_is in
    let rounds : f.shape.rounds ≡ p.rounds = ap (λ (q : Problem). q.rounds) c.self.view_is in
    let level : 2 * p.rounds + 1 ≡ 2 * c.rounds-2.result + 1 = omega (arith, c.rounds-2.ensures, rounds) in
    let len : 2 * p.rounds + 1 ≡ c.args.offset + (2 * c.rounds.result + 1) - c.args.offset =
    omega (arith, c.rounds.ensures, rounds) in
    subst (λ m. IsWindow (2 * c.rounds-2.result + 1) m (take (c.args.offset + (2 * c.rounds.result + 1) - c.args.offset) rest)) (sym ids)
    (subst (λ n. IsWindow (2 * c.rounds-2.result + 1) p.ids (take n rest)) len
    (subst (λ n. IsWindow n p.ids (take (2 * p.rounds + 1) rest)) level
    (tuple_window p.ids p.rounds c.args.offset p.forbidden c.args.tuple.now c.requires.tuple c.requires.offset)))

pub returns-clause-below : goal.returns-clause-below
returns-clause-below c =
    let p = c.args.self.now in
    let f = c.self.inside in
    let ids : f.shape.ids ≡ p.ids = ap (λ (q : Problem). q.ids) c.self.view_is in
    let rounds : f.shape.rounds ≡ p.rounds = ap (λ (q : Problem). q.rounds) c.self.view_is in
    let level : 2 * c.rounds-2.result + 1 ≡ 2 * p.rounds + 1 = omega (arith, c.rounds-2.ensures, rounds) in
    let same : windows (2 * c.rounds-2.result + 1) f.shape.ids ≡ windows_of p = λ i. windows (level i) (ids i) in
    subst (λ list. c.window_number.result < length list) same
    (slice_get_within (windows (2 * c.rounds-2.result + 1) f.shape.ids) c.window_number.result _ c.window_number.ensures.item)
