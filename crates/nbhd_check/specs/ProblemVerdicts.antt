-- The verdict of the judge on a table and a problem.
use Rattle.std.specs.Prelude.{List}
use Rattle.channel_tables.specs.Tables.{ChannelTable}
use Rattle.ring_problems.specs.declared.pattern.Pattern.{Pattern}
use Rattle.ring_problems.specs.Problems.{IsSolvedEverywhere}
use Rattle.ring_problems.specs.Witnesses.{IsWitness}
use Rattle.nbhd_check.specs.declared.problem_verdict.ProblemVerdict.{ProblemVerdict}
use Rattle.nbhd_check.specs.declared.problem_verdict.ProblemVerdict.TheVariants.{Yes, No}

abbrev pub IsVerdict : ChannelTable → List Pattern → ProblemVerdict → Type 0
IsVerdict t problem Yes = IsSolvedEverywhere t problem
IsVerdict t problem (No witness) = IsWitness t problem witness.ring.items witness.place witness.channels witness.pattern
