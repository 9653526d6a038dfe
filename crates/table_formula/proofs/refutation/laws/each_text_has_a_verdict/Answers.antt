use Rattle.table_formula.proofs.Verdicts.{verdict}
use Rattle.table_formula.proofs.refutation.laws.each_text_has_a_verdict.Goals as goal

pub returns : goal.returns
returns c = verdict
