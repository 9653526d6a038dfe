-- An operand has one level less than its expression.
use Rattle.std.proofs.Common.{◌+◌, ◌*◌}
use Rattle.node_lang.proofs.parser.Parser.+expr.Given as goal

abbrev pub decreases-expr : goal.decreases-expr
decreases-expr l = 4 * l.levels + 1

abbrev pub decreases-operand : goal.decreases-operand
decreases-operand l = 4 * l.levels + 2

abbrev pub decreases-one : goal.decreases-one
decreases-one l = 4 * l.levels

abbrev pub decreases-two : goal.decreases-two
decreases-two l = 4 * l.levels

abbrev pub decreases-choose : goal.decreases-choose
decreases-choose l = 4 * l.levels

abbrev pub decreases-pair : goal.decreases-pair
decreases-pair l = 4 * l.levels + 3
