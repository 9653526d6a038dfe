-- The commands and options of the tables. No public contract cites this file.
use Rattle.std.specs.Prelude.{◌≡◌, Bool, List, [], ◌∷◌, true, false, map, pos}
use Rattle.clap.specs.Words.{App, Rule, Shape, rule_of, shape_of, with_rule, with_subcommand}
use Rattle.clap.specs.declared.builder.action.ArgAction.{ArgAction}
use Rattle.clap.specs.declared.builder.action.ArgAction.TheVariants.{Set, Append}
use Rattle.clap.specs.declared.builder.arg.Arg.{Arg}
use Rattle.clap.specs.declared.builder.command.Command.{Command}
use Rattle.clap.specs.declared.builder.command.Command.TheViews.{out-Command}
use Rattle.clap.specs.declared.builder.value_parser.ValueParser.{ValueParser}
use Rattle.clap.specs.declared.builder.value_parser.ValueParser.TheVariants.{String, Signed}
use Rattle.task_words.specs.CommandLine.{command_of, option_rule}
use Rattle.task_words.specs.declared.commands.CommandRow.{CommandRow}
use Rattle.task_words.specs.declared.option_rows.Given.{Given}
use Rattle.task_words.specs.declared.option_rows.Given.TheVariants as given
use Rattle.task_words.specs.declared.option_rows.OptionRow.{OptionRow}
use Rattle.task_words.specs.declared.option_rows.Values.{Values}
use Rattle.task_words.specs.declared.option_rows.Values.TheVariants as values

-- the parser of these values
abbrev pub parser_in : Values → ValueParser
parser_in values.Text = String
parser_in (values.Numbers low high) = Signed (pos low) (pos high)

-- what a use of an option does that is given as often as this
abbrev pub action_in : Given → ArgAction
action_in given.AnyNumber = Append
action_in _ = Set

-- this option, given as often as this
abbrev pub with_given : Rule → Given → Rule
with_given rule given.Once = record rule { required = true }
with_given rule (given.ByDefault value) = record rule { defaults = value.now ∷ [] }
with_given rule _ = rule

-- the option of a row
abbrev pub rule_in : OptionRow → Rule
rule_in row = with_given (option_rule row.name.now (action_in row.given) (parser_in row.values)) row.given

-- the command of a row
abbrev pub command_in : CommandRow → Shape
command_in row = command_of row.name.now (map rule_in row.options.now)

-- the rule of an option, and whether subcommands share it
abbrev pub facts_of_option : Arg → Rule × Bool
facts_of_option option = (rule_of option, option.global)

-- the shape of a command, and whether it has options that its subcommands share
abbrev pub facts_of_command : Command → Shape × Bool
facts_of_command command = (shape_of command, (out-Command command).has_globals)

-- `clap`'s options are those of these rows, and subcommands share none of them
abbrev pub AreOptionsOf : List OptionRow → List Arg → Type 0
AreOptionsOf rows options = map facts_of_option options ≡ map (λ row. (rule_in row, false)) rows

-- `clap`'s commands are those of these rows, and have no option that subcommands share
pub record AreCommandsOf (rows : List CommandRow) (commands : List Command) : Type 0 where
  pub facts : map facts_of_command commands ≡ map (λ row. (command_in row, false)) rows

-- a command line with more commands
abbrev pub with_commands : App → List Shape → App
with_commands line [] = line
with_commands line (shape ∷ shapes) = with_commands (with_subcommand line shape) shapes

-- a command with more options
abbrev pub with_options : App → List Rule → App
with_options command [] = command
with_options command (rule ∷ rules) = with_options (with_rule command rule) rules
