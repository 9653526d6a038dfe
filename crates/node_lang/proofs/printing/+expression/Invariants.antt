-- An operand has fewer nodes than its expression.
use Rattle.std.proofs.Common.{◌+◌, ◌*◌}
use Rattle.node_program.specs.Term.{size, term_of}
use Rattle.node_lang.proofs.printing.+expression.Given as goal

abbrev pub decreases-write_expression : goal.decreases-write_expression
decreases-write_expression l = 2 * size (term_of l.expression.now)

abbrev pub decreases-write_operand : goal.decreases-write_operand
decreases-write_operand l = 2 * size (term_of l.operand.now) + 1
