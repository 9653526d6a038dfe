-- What is asked of the channels of a table.
use Rattle.std.specs.Prelude.{List, [], Option, Some, None}
use Rattle.channel_tables.specs.declared.separation.Separation.{Separation}
use Rattle.ring_problems.specs.declared.known.KnownProblem.{KnownProblem}
use Rattle.ring_problems.specs.declared.pattern.Pattern.{Pattern}
use Rattle.ring_problems.specs.declared.problem.Demand.{Demand}
use Rattle.ring_problems.specs.declared.problem.Demand.TheVariants.{Apart, Solve}
use Rattle.ring_problems.specs.declared.problem.Problem.{Problem}
use Rattle.ring_problems.specs.declared.problem.Problem.TheVariants.{Known, Listed}
use Rattle.ring_problems.specs.Known.{known_patterns}

-- the forbidden patterns of a problem
abbrev pub patterns_of : Problem → List Pattern
patterns_of (Known known) = known_patterns known
patterns_of (Listed patterns) = patterns.items

-- the name of a problem, if it has one
abbrev pub known_in : Problem → Option KnownProblem
known_in (Known known) = Some known
known_in (Listed patterns) = None

-- the separation that is asked for; a problem asks for none
abbrev pub separation_of : Demand → Separation
separation_of (Apart separation) = separation
separation_of (Solve problem) = record { near = 0; far = 0 }

-- the patterns that are forbidden; a separation forbids none
abbrev pub forbidden_of : Demand → List Pattern
forbidden_of (Apart separation) = []
forbidden_of (Solve problem) = patterns_of problem
