-- The options of the command that is called, and the results of a parse that `clap` accepts or refuses. No public
-- contract cites this file.
use Rattle.std.specs.Prelude.{◌≡◌, ◌≢◌, ◌⊎◌, ◌≤◌, ◌^◌, ◌==◌, ◌&&◌, ℕ, Bool, Some, None, List, [], ◌∷◌, ⊤, false, nat_lt}
use Rattle.std.specs.Prelude.{codes, pos, if◌then◌else◌}
use Rattle.std.specs.List.{list_any}
use Rattle.std.specs.Str.{bytes_eq}
use Rattle.clap.specs.Facts.{parser_of_value}
use Rattle.clap.specs.Words.{Row, Rule, Shape, Text, found_of, rows_of}
use Rattle.clap.specs.declared.builder.value_parser.ValueParser.{ValueParser}
use Rattle.clap.specs.declared.builder.value_parser.ValueParser.TheVariants.{Signed}
use Rattle.clap.specs.declared.error.kind.ErrorKind.{ErrorKind}
use Rattle.clap.specs.declared.error.kind.ErrorKind.TheVariants as kind
use Rattle.task_words.specs.OptionLines.{IsOneOf, is_always_given}
use Rattle.task_words.specs.CommandLine.{command_line}
use Rattle.task_words.specs.DemandValues.{demand_fault}
use Rattle.task_words.specs.Formats.{format_of}
use Rattle.task_words.specs.Words.{AsksForHelp, IsDemandName, IsMisused, IsRingBad, IsRingName}
use Rattle.task_words.specs.declared.option_rows.OptionRow.{OptionRow}
use Rattle.task_words.specs.declared.option_rows.Values.{Values}
use Rattle.task_words.specs.declared.option_rows.Values.TheVariants as values
use Rattle.task_words.specs.declared.options.Call.{Call}
use Rattle.task_words.specs.declared.words.WordsFault.{WordsFault}
use Rattle.task_words.specs.declared.words.WordsFault.TheVariants.{Usage, BadRing, BadDemand, OutOfMemory, Help}

-- the values of the options of a call
abbrev pub values_of : Call → List Row
values_of call = rows_of (found_of call.options.now)

-- a command of the program is called, and its options have their values
pub record IsCall (call : Call) : Type 0 where
  pub one : IsOneOf command_line.subs call.name.now (values_of call)

-- why the command of this name with these values has no task, unless memory was refused: it takes a ring, but the
-- value of `--ring` is not a ring text, or it demands something, but its options are no demand, for this cause
abbrev pub IsCallFault : Text → List Row → WordsFault → Type 0
IsCallFault name values BadRing = IsRingName name × IsRingBad values
IsCallFault name values (BadDemand cause) = IsDemandName name × (demand_fault values ≡ Some cause)
IsCallFault name values OutOfMemory = ⊤
IsCallFault name values _ = ⊥

-- why the command of this name with these values has no request, unless memory was refused: the value of `--format`
-- is neither `lines` nor `json`, or it is fine, but there is no task
abbrev pub IsRequestFault : Text → List Row → WordsFault → Type 0
IsRequestFault name values (Usage text) = format_of values ≡ None
IsRequestFault name values BadRing = (¬ (format_of values ≡ None)) × IsCallFault name values BadRing
IsRequestFault name values (BadDemand cause) = (¬ (format_of values ≡ None)) × IsCallFault name values (BadDemand cause)
IsRequestFault name values OutOfMemory = ⊤
IsRequestFault name values (Help text) = ⊥

-- the command of this name with these values has a task
pub record IsGoodCall (name : Text) (values : List Row) : Type 0 where
  pub ring : ¬ (IsRingName name × IsRingBad values)
  pub demand : IsDemandName name → demand_fault values ≡ None

-- the commands that take `--near` and `--far` or a problem
abbrev pub IsSeparationName : Text → Type 0
IsSeparationName name = (name ≡ codes "judge") ⊎ (name ≡ codes "formula") ⊎ (name ≡ codes "refute")

-- the number is one of those that an option takes
abbrev pub IsBetween : Values → ℕ → Type 0
IsBetween values.Text number = ⊥
IsBetween (values.Numbers low high) number = (low ≤ number) × (number ≤ high)

-- whether a parser accepts the numbers that an option takes, which have 32 bits
abbrev pub is_parser_of : Values → ValueParser → Bool
is_parser_of (values.Numbers low high) (Signed (pos first) (pos last)) =
    (low == first) && ((high == last) && nat_lt high (2 ^ 32))
is_parser_of _ _ = false

-- whether a rule is the option of this row, which takes numbers, and has a value in each call
abbrev pub is_rule_of : OptionRow → Rule → Bool
is_rule_of row rule = bytes_eq rule.id row.name.now
    && (is_parser_of row.values (parser_of_value rule.parser) && is_always_given rule)

-- the names of the commands with an option that passes a test
abbrev pub names_with : (Rule → Bool) → List Shape → List Text
names_with test [] = []
names_with test (command ∷ commands) =
    if list_any test command.rules then command.name ∷ names_with test commands else names_with test commands

-- this is one of the names
abbrev pub IsNamed : List Text → Text → Type 0
IsNamed [] name = ⊥
IsNamed (other ∷ names) name = (name ≡ other) ⊎ IsNamed names name

-- the command with this name takes the option of this row
abbrev pub IsTaken : OptionRow → Text → Type 0
IsTaken row name = IsNamed (names_with (is_rule_of row) command_line.subs) name

-- the fault of the words for an error of this kind
abbrev pub IsRefusalOf : ErrorKind → WordsFault → Type 0
IsRefusalOf fault (Usage text) = (fault ≢ kind.DisplayHelp) × (fault ≢ kind.OutOfMemory)
IsRefusalOf fault BadRing = ⊥
IsRefusalOf fault (BadDemand cause) = ⊥
IsRefusalOf fault OutOfMemory = ⊤
IsRefusalOf fault (Help text) = fault ≡ kind.DisplayHelp

-- the fault of the words is one that `clap` finds in them, or OutOfMemory
abbrev pub IsRefusalIn : List Text → WordsFault → Type 0
IsRefusalIn words (Usage text) = IsMisused words
IsRefusalIn words BadRing = ⊥
IsRefusalIn words (BadDemand cause) = ⊥
IsRefusalIn words OutOfMemory = ⊤
IsRefusalIn words (Help text) = AsksForHelp words
