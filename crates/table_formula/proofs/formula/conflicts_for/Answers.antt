use Rattle.std.proofs.Common.{rules, []}
use Rattle.table_formula.specs.Problems.{problem_of}
use Rattle.table_formula.proofs.Sizes.{few_pairs}
use Rattle.table_formula.proofs.formula.conflicts_for.Goals as goal

pub conflicts_in-requires : goal.conflicts_in-requires
conflicts_in-requires c =
    few_pairs (problem_of c.args.shape c.args.channels c.args.separation []) (search rules) c.requires
