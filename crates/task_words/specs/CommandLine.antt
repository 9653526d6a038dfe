-- The command line of the program, as `clap` reads it: one of thirteen commands, then its options in any order.
-- Each use of an option has one value.
use Rattle.std.specs.Prelude.{◌≡◌, ℕ, List, [], ◌∷◌, Some, true, false, codes, pos}
use Rattle.clap.specs.Words.{App, Rule, Shape, new_app, new_rule, shape_of}
use Rattle.clap.specs.declared.builder.command.Command.{Command}
use Rattle.clap.specs.declared.builder.command.Command.TheViews.{out-Command}
use Rattle.clap.specs.declared.builder.action.ArgAction.{ArgAction}
use Rattle.clap.specs.declared.builder.action.ArgAction.TheVariants.{Set, Append}
use Rattle.clap.specs.declared.builder.value_parser.ValueParser.{ValueParser}
use Rattle.clap.specs.declared.builder.value_parser.ValueParser.TheVariants.{String, Signed}
use Rattle.task_words.specs.declared.limits.TheConstants.{MAX_BASE, MAX_CHANNELS, MAX_COUNT, MAX_DISTANCE}
use Rattle.task_words.specs.declared.limits.TheConstants.{MAX_ROUNDS, MIN_BASE}

-- The option `--NAME`. Each use has one value, which has one name in the help and is accepted by this parser. With
-- `Set` the option is given at most once; with `Append` it may be repeated.
abbrev pub option_rule : List ℕ → ArgAction → ValueParser → Rule
option_rule name action parser = record (new_rule name) {
  long = Some name;
  action = Some action;
  value_names = 1;
  parser = Some parser;
}

-- a required option
abbrev pub required_rule : List ℕ → ValueParser → Rule
required_rule name parser = record (option_rule name Set parser) { required = true }

-- an option whose value is a number from 1 to MAX_COUNT, 1 by default
abbrev pub count_rule : List ℕ → Rule
count_rule name = record (option_rule name Set (Signed (pos 1) (pos MAX_COUNT))) { defaults = codes "1" ∷ [] }

-- `--ids M`: a number from 0 to 4294967295
abbrev pub ids_rule : Rule
ids_rule = required_rule (codes "ids") (Signed (pos 0) (pos 4294967295))

-- `--ring A,B,..`: any text
abbrev pub ring_rule : Rule
ring_rule = required_rule (codes "ring") String

-- `--place P`: a number from 0 to 4294967295
abbrev pub place_rule : Rule
place_rule = required_rule (codes "place") (Signed (pos 0) (pos 4294967295))

-- `--base B`: a number from MIN_BASE to MAX_BASE, 10 by default
abbrev pub base_rule : Rule
base_rule = record (option_rule (codes "base") Set (Signed (pos MIN_BASE) (pos MAX_BASE)))
    { defaults = codes "10" ∷ [] }

-- `--workers W`
abbrev pub workers_rule : Rule
workers_rule = count_rule (codes "workers")

-- `--segments S`
abbrev pub segments_rule : Rule
segments_rule = count_rule (codes "segments")

-- `--near P`: a number from 1 to MAX_DISTANCE, 1 by default
abbrev pub near_rule : Rule
near_rule = record (option_rule (codes "near") Set (Signed (pos 1) (pos MAX_DISTANCE))) { defaults = codes "1" ∷ [] }

-- `--far Q`: a number from 0 to MAX_DISTANCE, 0 by default
abbrev pub far_rule : Rule
far_rule = record (option_rule (codes "far") Set (Signed (pos 0) (pos MAX_DISTANCE))) { defaults = codes "0" ∷ [] }

-- `--forbid A,B,C`: any text, and any number of times
abbrev pub forbid_rule : Rule
forbid_rule = option_rule (codes "forbid") Append String

-- `--problem NAME`: any text, at most once
abbrev pub problem_rule : Rule
problem_rule = option_rule (codes "problem") Set String

-- `--rounds T`: a number from 0 to MAX_ROUNDS
abbrev pub rounds_rule : Rule
rounds_rule = required_rule (codes "rounds") (Signed (pos 0) (pos MAX_ROUNDS))

-- `--channels C`: a number from 1 to MAX_CHANNELS
abbrev pub channels_rule : Rule
channels_rule = required_rule (codes "channels") (Signed (pos 1) (pos MAX_CHANNELS))

-- `--format FORMAT`: any text, `lines` by default
abbrev pub format_rule : Rule
format_rule = record (option_rule (codes "format") Set String) { defaults = codes "lines" ∷ [] }

-- a command of this name with these options
abbrev pub command_of : List ℕ → List Rule → Shape
command_of name options = record (new_app name).top { rules = options }

-- `clap`'s command has this shape, and no option that its subcommands share
abbrev pub IsCommandOf : Shape → Command → Type 0
IsCommandOf shape command = (shape_of command ≡ shape) × ((out-Command command).has_globals ≡ false)

-- `check --ids M [--format FORMAT]`
abbrev pub check_command : Shape
check_command = command_of (codes "check") (ids_rule ∷ format_rule ∷ [])

-- `print [--format FORMAT]`
abbrev pub print_command : Shape
print_command = command_of (codes "print") (format_rule ∷ [])

-- `table --ids M [--workers W] [--near P] [--far Q] [--format FORMAT]`
abbrev pub table_command : Shape
table_command = command_of (codes "table") (ids_rule ∷ workers_rule ∷ near_rule ∷ far_rule ∷ format_rule ∷ [])

-- `judge --ids M [--workers W] [--near P] [--far Q] [--forbid A,B,C].. [--problem NAME] [--format FORMAT]`
abbrev pub judge_command : Shape
judge_command = command_of (codes "judge") (ids_rule ∷ workers_rule ∷ near_rule ∷ far_rule ∷ forbid_rule ∷ problem_rule
    ∷ format_rule ∷ [])

-- `run --ids M --ring A,B,.. [--segments S] [--format FORMAT]`
abbrev pub run_command : Shape
run_command = command_of (codes "run") (ids_rule ∷ ring_rule ∷ segments_rule ∷ format_rule ∷ [])

-- `trace --ids M --ring A,B,.. [--base B] [--format FORMAT]`
abbrev pub trace_command : Shape
trace_command = command_of (codes "trace") (ids_rule ∷ ring_rule ∷ base_rule ∷ format_rule ∷ [])

-- `explain --ids M --ring A,B,.. --place P [--base B] [--format FORMAT]`
abbrev pub explain_command : Shape
explain_command = command_of (codes "explain") (ids_rule ∷ ring_rule ∷ place_rule ∷ base_rule ∷ format_rule ∷ [])

-- `plan --ids M --ring A,B,.. [--workers W] [--format FORMAT]`
abbrev pub plan_command : Shape
plan_command = command_of (codes "plan") (ids_rule ∷ ring_rule ∷ workers_rule ∷ format_rule ∷ [])

-- `audit [--forbid A,B,C].. [--problem NAME] [--format FORMAT]`
abbrev pub audit_command : Shape
audit_command = command_of (codes "audit") (forbid_rule ∷ problem_rule ∷ format_rule ∷ [])

-- `apply --ring A,B,.. [--format FORMAT]`
abbrev pub apply_command : Shape
apply_command = command_of (codes "apply") (ring_rule ∷ format_rule ∷ [])

-- `migrate [--format FORMAT]`
abbrev pub migrate_command : Shape
migrate_command = command_of (codes "migrate") (format_rule ∷ [])

-- `formula --ids M --rounds T --channels C [--near P] [--far Q] [--forbid A,B,C].. [--problem NAME]`
abbrev pub formula_command : Shape
formula_command =
    command_of (codes "formula") (ids_rule ∷ rounds_rule ∷ channels_rule ∷ near_rule ∷ far_rule ∷ forbid_rule
    ∷ problem_rule ∷ [])

-- `refute --ids M --rounds T --channels C [--near P] [--far Q] [--forbid A,B,C].. [--problem NAME] [--format FORMAT]`
abbrev pub refute_command : Shape
refute_command =
    command_of (codes "refute") (ids_rule ∷ rounds_rule ∷ channels_rule ∷ near_rule ∷ far_rule ∷ forbid_rule
    ∷ problem_rule ∷ format_rule ∷ [])

-- the program without its commands: the words are those after its name, and a command is required
abbrev pub program : App
program = record {
  top = record (new_app (codes "nbhd")).top { no_binary_name = true; subcommand_required = true };
  subs = [];
}

-- the words after the program's name: the name of one of the thirteen commands, and its options
abbrev pub command_line : App
command_line = record {
  top = record program.top { is_leaf = false };
  subs =
      check_command ∷ print_command ∷ table_command ∷ judge_command ∷ run_command ∷ trace_command ∷ explain_command
      ∷ plan_command ∷ audit_command
      ∷ apply_command ∷ migrate_command ∷ formula_command ∷ refute_command ∷ [];
}
