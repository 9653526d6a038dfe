-- The tasks of the words after the program's name, as `clap` reads them.
use Rattle.std.specs.Prelude.{◌≡◌, ◌≢◌, ◌⊎◌, ℕ, List, [], Some, None, codes}
use Rattle.std.specs.Str.Parse.{without_leading_plus}
use Rattle.clap.specs.Words.{IsAmong, Row, Text, fault_of, first_of, one_of, subcommand_of}
use Rattle.clap.specs.declared.error.kind.ErrorKind.{ErrorKind}
use Rattle.clap.specs.declared.error.kind.ErrorKind.TheVariants as kind
use Rattle.numerals.specs.declared.base.Base.{Base}
use Rattle.numerals.specs.Numerals.{radix}
use Rattle.ring_problems.specs.declared.problem.Demand.{Demand}
use Rattle.ring_problems.specs.declared.problem.Demand.TheVariants.{Apart, Solve}
use Rattle.task_words.specs.CommandLine.{command_line}
use Rattle.task_words.specs.Decimal.{IsNumber, number_in}
use Rattle.task_words.specs.DemandValues.{HasNoProblem, IsProblemFor, IsProblemIn, demand_fault}
use Rattle.task_words.specs.Formats.{HasFormat, format_of}
use Rattle.task_words.specs.RingText.{IsRingText, ring_in}
use Rattle.task_words.specs.declared.demand_fault.DemandFault.{DemandFault}
use Rattle.task_words.specs.declared.format.Format.{Format}
use Rattle.task_words.specs.declared.task.Task.{Task}
use Rattle.task_words.specs.declared.task.Task.TheVariants.{Check, Print, Table, Judge, Run, Trace, Explain, Plan}
use Rattle.task_words.specs.declared.task.Task.TheVariants.{Audit, Apply, Migrate, Formula, Refute}

-- `clap` accepts the words: they have no fault of any kind
abbrev pub IsAccepted : List Text → Type 0
IsAccepted words = fault_of command_line words ≡ []

-- the words ask for help
abbrev pub AsksForHelp : List Text → Type 0
AsksForHelp words = IsAmong kind.DisplayHelp (fault_of command_line words)

-- `clap` refuses the words, for another cause than a request for help or refused memory
abbrev pub IsMisused : List Text → Type 0
IsMisused words = (fault : ErrorKind) × IsAmong fault (fault_of command_line words) × (fault ≢ kind.DisplayHelp)
    × (fault ≢ kind.OutOfMemory)

-- the words are a call of the command of this name, and these are the values of its options
abbrev pub IsCallOf : List Text → Text → List Row → Type 0
IsCallOf words name values = subcommand_of command_line words ≡ Some (name, values)

-- the words are a call with a value of `--format` that is neither `lines` nor `json`
abbrev pub HasBadFormat : List Text → Type 0
HasBadFormat words = (name : Text) × (values : List Row) × IsCallOf words name values × (format_of values ≡ None)

-- the words are a command: `clap` accepts them, and the value of `--format`, if there is one, is `lines` or `json`
abbrev pub IsCommand : List Text → Type 0
IsCommand words = IsAccepted words × ¬ HasBadFormat words

-- the words are no command and do not ask for help: `clap` refuses them, or it accepts them, but the value of
-- `--format` is neither `lines` nor `json`
abbrev pub IsRefused : List Text → Type 0
IsRefused words = IsMisused words ⊎ (IsAccepted words × HasBadFormat words)

-- the value of this option, as `clap` passes it to the parser of numbers, is a decimal number up to 4294967295, perhaps
-- after a plus sign, and this is the number
abbrev pub HasNumber : List Row → Text → ℕ → Type 0
HasNumber values option number = (text : Text) × (one_of option values ≡ Some text)
    × IsNumber (without_leading_plus text) × (number ≡ number_in (without_leading_plus text))

-- the value of `--ring` is a ring text, and these are its numbers
abbrev pub HasRing : List Row → List ℕ → Type 0
HasRing values ring = (text : Text) × (first_of (codes "ring") values ≡ Some text) × IsRingText text
    × (ring ≡ ring_in text)

-- the value of `--base` is this base
abbrev pub HasBase : List Row → Base → Type 0
HasBase values base = HasNumber values (codes "base") (radix base)

-- the commands that take a ring
abbrev pub IsRingName : Text → Type 0
IsRingName name =
    (name ≡ codes "run") ⊎ (name ≡ codes "trace") ⊎ (name ≡ codes "explain") ⊎ (name ≡ codes "plan")
    ⊎ (name ≡ codes "apply")

-- the value of `--ring` is not a ring text
abbrev pub IsRingBad : List Row → Type 0
IsRingBad values = (text : Text) × (first_of (codes "ring") values ≡ Some text) × ¬ IsRingText text

-- the words are a command with a ring, but the value of `--ring` is not a ring text
abbrev pub HasBadRing : List Text → Type 0
HasBadRing words = IsCommand words × (name : Text) × (values : List Row) × IsCallOf words name values × IsRingName name
    × IsRingBad values

-- the commands that demand something of channels
abbrev pub IsDemandName : Text → Type 0
IsDemandName name = (name ≡ codes "judge") ⊎ (name ≡ codes "audit") ⊎ (name ≡ codes "formula") ⊎ (name ≡ codes "refute")

-- the words are a command that demands something, but the values of its options are no demand, for this cause
abbrev pub HasBadDemand : List Text → DemandFault → Type 0
HasBadDemand words cause =
    IsCommand words × (name : Text) × (values : List Row) × IsCallOf words name values × IsDemandName name
    × (demand_fault values ≡ Some cause)

-- the values of the options of a formula are these numbers
pub record HasFormulaNumbers (values : List Row) (ids rounds channels : ℕ) : Type 0 where
  pub ids_is : HasNumber values (codes "ids") ids
  pub rounds_is : HasNumber values (codes "rounds") rounds
  pub channels_is : HasNumber values (codes "channels") channels

-- the values of the options demand this: a problem, or without one that channels differ by near and far
abbrev pub IsDemandFor : List Row → Demand → Type 0
IsDemandFor values (Apart separation) =
    HasNoProblem values × HasNumber values (codes "near") separation.near
    × HasNumber values (codes "far") separation.far
IsDemandFor values (Solve problem) = IsProblemFor values problem

-- the task of the command with this name and these values of its options
abbrev pub IsTaskFor : Text → List Row → Task → Type 0
IsTaskFor name values (Check ids) = (name ≡ codes "check") × HasNumber values (codes "ids") ids
IsTaskFor name values Print = name ≡ codes "print"
IsTaskFor name values (Table ids workers near far) =
    (name ≡ codes "table") × HasNumber values (codes "ids") ids × HasNumber values (codes "workers") workers
    × HasNumber values (codes "near") near × HasNumber values (codes "far") far
IsTaskFor name values (Judge ids workers demand) =
    (name ≡ codes "judge") × HasNumber values (codes "ids") ids × HasNumber values (codes "workers") workers
    × IsDemandFor values demand
IsTaskFor name values (Run ids ring segments) = (name ≡ codes "run") × HasNumber values (codes "ids") ids
    × HasRing values ring.items × HasNumber values (codes "segments") segments
IsTaskFor name values (Trace ids ring base) = (name ≡ codes "trace") × HasNumber values (codes "ids") ids
    × HasRing values ring.items × HasBase values base
IsTaskFor name values (Explain ids ring place base) = (name ≡ codes "explain") × HasNumber values (codes "ids") ids
    × HasRing values ring.items × HasNumber values (codes "place") place × HasBase values base
IsTaskFor name values (Plan ids ring workers) = (name ≡ codes "plan") × HasNumber values (codes "ids") ids
    × HasRing values ring.items × HasNumber values (codes "workers") workers
IsTaskFor name values (Audit problem) = (name ≡ codes "audit") × IsProblemIn values problem
IsTaskFor name values (Apply ring) = (name ≡ codes "apply") × HasRing values ring.items
IsTaskFor name values Migrate = name ≡ codes "migrate"
IsTaskFor name values (Formula ids rounds channels demand) =
    (name ≡ codes "formula") × HasFormulaNumbers values ids rounds channels × IsDemandFor values demand
IsTaskFor name values (Refute ids rounds channels demand) =
    (name ≡ codes "refute") × HasFormulaNumbers values ids rounds channels × IsDemandFor values demand

-- the task that the words request
abbrev pub IsTaskOf : List Text → Task → Type 0
IsTaskOf words task = (name : Text) × (values : List Row) × IsCallOf words name values × IsTaskFor name values task

-- the form of the report that the words request
abbrev pub IsFormatOf : List Text → Format → Type 0
IsFormatOf words format = (name : Text) × (values : List Row) × IsCallOf words name values × HasFormat values format
