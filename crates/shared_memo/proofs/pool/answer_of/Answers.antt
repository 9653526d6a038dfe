use Rattle.std.proofs.Common.{rules, arith, ◌≡◌, [], length}
use Rattle.std.proofs.lemmas.List.{nil_from_length}
use Rattle.std.specs.Vec.Iter.{into_iter_items, into_iter_len}
use Rattle.shared_memo.proofs.Taken.{taken_more, taken_fault, taken_all}
use Rattle.shared_memo.proofs.pool.answer_of.Goals as goal

pub returns-in-Err : goal.returns-in-Err
returns-in-Err g c =
    let inv = c.loop-outcome.invariant.1 in
    taken_fault c.args.outcomes.items inv.0 _ c.in-Some.outcome c.loop-outcome.last _ c.requires
    (rw c.in-Some.ensures.steps.0 at inv.1) (search rules)

pub loop-outcome-preserved : goal.loop-outcome-preserved
loop-outcome-preserved g c =
    let inv = c.loop-outcome.invariant.1 in
    let steps = c.in-Some.ensures.steps.0 in
    let long : into_iter_len c.next.new.self ≡ length (into_iter_items c.next.new.self) = search rules in
    (long, (_, taken_more c.args.outcomes.items inv.0 _ c.in-Some.outcome c.loop-outcome.last _ (rw steps at inv.1) (search rules)))

pub returns : goal.returns
returns g c =
    let inv = c.loop-outcome.invariant in
    let none : into_iter_len c.loop-outcome.outcome-iterator ≡ 0 = c.in-None.ensures.steps.0 in
    let empty : into_iter_items c.loop-outcome.outcome-iterator ≡ [] = nil_from_length _ (omega (arith, none, inv.0)) in
    taken_all c.args.outcomes.items inv.1.0 c.loop-outcome.last (rw empty at inv.1.1)
