-- What the values of options demand of channels, and why they are no demand.
use Rattle.std.specs.Prelude.{◌≡◌, ◌<◌, ◌&&◌, ◌||◌, Bool, true, false, Option, Some, None, List, [], ◌∷◌, length, map}
use Rattle.std.specs.Prelude.{find, is_some, unwrap_or, option_map, nat_lt, codes, bytes_eq, All, if◌then◌else◌}
use Rattle.std.specs.Option.{option_and_then, option_or}
use Rattle.clap.specs.Words.{Row, Text, all_of, first_of}
use Rattle.clap.specs.declared.parser.matches.ValueSource.{ValueSource}
use Rattle.clap.specs.declared.parser.matches.ValueSource.TheVariants.{CommandLine}
use Rattle.ring_problems.specs.declared.known.KnownProblem.{KnownProblem}
use Rattle.ring_problems.specs.declared.known.KnownProblem.TheVariants.{IndependentSet, Matching, WeakColouring}
use Rattle.ring_problems.specs.declared.pattern.Pattern.{Pattern}
use Rattle.ring_problems.specs.declared.problem.Problem.{Problem}
use Rattle.ring_problems.specs.declared.problem.Problem.TheVariants.{Known, Listed}
use Rattle.task_words.specs.PatternText.{IsPatternText, pattern_fault, pattern_in}
use Rattle.task_words.specs.declared.demand_fault.DemandFault.{DemandFault}
use Rattle.task_words.specs.declared.demand_fault.DemandFault.TheVariants.{TwoDemands, UnknownProblem}
use Rattle.task_words.specs.declared.demand_fault.DemandFault.TheVariants.{ManyPatterns, BadPattern}
use Rattle.task_words.specs.declared.demand_fault.PatternFault.{PatternFault}
use Rattle.task_words.specs.declared.limits.TheConstants.{MAX_PATTERNS}

-- the values of `--forbid`, in the order of the words
abbrev pub forbidden_texts : List Row → List Text
forbidden_texts values = unwrap_or (all_of (codes "forbid") values) []

-- the value of `--problem`
abbrev pub problem_name : List Row → Option Text
problem_name values = first_of (codes "problem") values

-- the problem of this name
abbrev pub known_problem : Text → Option KnownProblem
known_problem name =
    if bytes_eq name (codes "mis") then Some IndependentSet
    else if bytes_eq name (codes "matching") then Some Matching
    else if bytes_eq name (codes "weak2") then Some WeakColouring
    else None

-- ---- problems

-- the texts are pattern texts, and these are their patterns, in order
pub record ArePatternsOf (texts : List Text) (patterns : List Pattern) : Type 0 where
  pub each : All IsPatternText texts
  pub are : patterns ≡ map pattern_in texts

-- the values ask for this problem: by its name, or by its patterns
abbrev pub IsProblemFor : List Row → Problem → Type 0
IsProblemFor values (Known known) = option_and_then known_problem (problem_name values) ≡ Some known
IsProblemFor values (Listed patterns) =
    (0 < length (forbidden_texts values)) × ArePatternsOf (forbidden_texts values) patterns.items

-- the values ask for no problem: there is neither `--forbid` nor `--problem`
pub record HasNoProblem (values : List Row) : Type 0 where
  pub no_patterns : forbidden_texts values ≡ []
  pub no_name : problem_name values ≡ None

-- the values ask for this problem, if it is one, and else for none
abbrev pub IsProblemIn : List Row → Option Problem → Type 0
IsProblemIn values None = HasNoProblem values
IsProblemIn values (Some problem) = IsProblemFor values problem

-- ---- why the values are no demand

-- where the value of an option comes from
abbrev pub source_of : Text → List Row → Option ValueSource
source_of option values = option_and_then (λ row. row.source) (find (λ row. bytes_eq row.id option) values)

-- whether it comes from the words, and is not the value by default
abbrev pub is_from_words : Option ValueSource → Bool
is_from_words (Some CommandLine) = true
is_from_words _ = false

abbrev pub is_in_words : Text → List Row → Bool
is_in_words option values = is_from_words (source_of option values)

-- two demands of three: patterns, a named problem, and `--near` or `--far`
abbrev pub are_two : Bool → Bool → Bool → Bool
are_two patterns name separation = (patterns && name) || ((patterns || name) && separation)

-- whether the words give `--near` or `--far`
abbrev pub has_separation : List Row → Bool
has_separation values = is_in_words (codes "near") values || is_in_words (codes "far") values

-- whether the words give two demands
abbrev pub has_two_demands : List Row → Bool
has_two_demands values =
    are_two (nat_lt 0 (length (forbidden_texts values))) (is_some (problem_name values)) (has_separation values)

-- the value of `--problem` is not the name of a problem
abbrev pub name_fault : Option Text → Option DemandFault
name_fault None = None
name_fault (Some name) = if is_some (known_problem name) then None else Some UnknownProblem

-- why the first of the texts that is no pattern text is none
abbrev pub texts_fault : List Text → Option PatternFault
texts_fault [] = None
texts_fault (text ∷ texts) = option_or (pattern_fault text) (texts_fault texts)

-- why the texts are not at most MAX_PATTERNS pattern texts
abbrev pub patterns_fault : List Text → Option DemandFault
patterns_fault texts = if nat_lt MAX_PATTERNS (length texts) then Some ManyPatterns
    else option_map BadPattern (texts_fault texts)

-- why the values are no demand, if they are none: two are given, the name is unknown, or the patterns are not at most
-- MAX_PATTERNS pattern texts
abbrev pub demand_fault : List Row → Option DemandFault
demand_fault values =
    if has_two_demands values then Some TwoDemands
    else option_or (name_fault (problem_name values)) (patterns_fault (forbidden_texts values))
