use Rattle.std.proofs.Common.{◌<◌, length, sym, ap, ◌∙◌, subst, slice_get}
use Rattle.ring_problems.proofs.TupleParts.{short_tuples, short_tuple, tuple_parts}
use Rattle.ring_problems.proofs.tuple_lists.write_tuple.Goals as goal

pub tuple-requires-clause-below : goal.tuple-requires-clause-below
tuple-requires-clause-below c =
    subst (λ list. c.args.number < length list)
    (short_tuples c.args.shape.ids c.args.shape.rounds c.args.problem.now (sym c.is_long.ensures ∙ c.if-is_long.false)) c.requires.below

pub returns-then-is_long-clause-tuple : goal.returns-then-is_long-clause-tuple
returns-then-is_long-clause-tuple c =
    (tuple_parts c.args.shape.ids c.args.shape.rounds c.args.number c.args.problem.now _ c.write_long.ensures.item).is

pub returns-else-is_long-clause-item : goal.returns-else-is_long-clause-item
returns-else-is_long-clause-item c =
    ap (λ list. slice_get list c.args.number)
    (short_tuples c.args.shape.ids c.args.shape.rounds c.args.problem.now (sym c.is_long.ensures ∙ c.if-is_long.false))
    ∙ c.tuple.ensures.item

pub returns-else-is_long-clause-tuple : goal.returns-else-is_long-clause-tuple
returns-else-is_long-clause-tuple c =
    short_tuple c.args.shape.ids c.args.shape.rounds c.args.problem.now _ (sym c.is_long.ensures
    ∙ c.if-is_long.false) c.tuple.ensures.tuple
