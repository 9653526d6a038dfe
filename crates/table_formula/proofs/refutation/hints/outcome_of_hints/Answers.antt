use Rattle.std.proofs.Common.{◌||◌, ap, sym, ◌∙◌, Some}
use Rattle.table_formula.specs.Clauses.{is_same}
use Rattle.table_formula.specs.Marked.{is_marked}
use Rattle.table_formula.specs.declared.literal.Literal.{Literal}
use Rattle.table_formula.specs.Stored.{clause_of}
use Rattle.table_formula.proofs.HintSteps.{at_nothing, at_one}
use Rattle.table_formula.proofs.refutation.hints.outcome_of_hints.Goals as goal

pub returns-in-Nothing-clause-value : goal.returns-in-Nothing-clause-value
returns-in-Nothing-clause-value c =
    c.at_conflict.ensures
    ∙ at_nothing (clause_of c.args.clauses.now) c.args.hints.now (is_marked c.loop-i.marks) c.loop-i.i c.loop-i-test.true
    (ap Some (sym c.in-Nothing.is) ∙ c.in-Some.ensures.value)
    ∙ c.loop-i.invariant.value

pub loop-i-preserved : goal.loop-i-preserved
loop-i-preserved c = record {
  value =
      at_one (clause_of c.args.clauses.now) c.args.hints.now (is_marked c.loop-i.marks) c.loop-i.i c.in-One.l
      (is_marked c.mark.new.self)
      c.loop-i-test.true c.if-is_last.false
      (ap Some (sym c.in-One.is) ∙ c.in-Some.ensures.value)
      (λ k. c.mark.ensures.marked k
      ∙ ap (λ (l : Literal). is_marked c.loop-i.marks k || is_same k l) c.negation.ensures)
      ∙ c.loop-i.invariant.value;
  variables = c.mark.ensures.variables ∙ c.loop-i.invariant.variables;
  room = c.remaining.ensures.room ∙ c.loop-i.invariant.room;
}
