-- The form of a report, by the value of `--format`.
use Rattle.std.specs.Prelude.{◌≡◌, ◌++◌, Option, Some, None, List, codes, bytes_eq, if◌then◌else◌}
use Rattle.clap.specs.Words.{Row, Text, first_of}
use Rattle.task_words.specs.declared.format.Format.{Format}
use Rattle.task_words.specs.declared.format.Format.TheVariants.{Json, Lines}

-- the form of this name
abbrev pub known_format : Text → Option Format
known_format name =
    if bytes_eq name (codes "lines") then Some Lines
    else if bytes_eq name (codes "json") then Some Json
    else None

-- the text on a value of `--format` that is the name of no form, as `clap` has it on such a value
abbrev pub format_text : Text → Text
format_text name = codes "error: invalid value '" ++ (name
    ++ codes "' for '--format <FORMAT>'\n  [possible values: lines, json]\n\nFor more information, try '--help'.\n")

-- the form that a value of `--format` names, and lines without a value
abbrev pub named_format : Option Text → Option Format
named_format None = Some Lines
named_format (Some name) = known_format name

-- the form that the values of the options of a command ask for, if they name one
abbrev pub format_of : List Row → Option Format
format_of values = named_format (first_of (codes "format") values)

-- The values ask for this form: JSON exactly if the value of `--format` is `json`; lines if it is `lines`, or if
-- there is none, as for a command without that option.
abbrev pub HasFormat : List Row → Format → Type 0
HasFormat values format = format_of values ≡ Some format
