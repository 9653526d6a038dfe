use Rattle.std.proofs.Common.{◌≡◌, ◌∙◌, ap, codes, inl, inr, sym, None, Option, Some}
use Rattle.clap.specs.Words.{Text, first_value, found_of, rows_of}
use Rattle.clap.specs.declared.parser.matches.Found.{Found}
use Rattle.clap.proofs.WalkLemmas.{first_value-rows}
use Rattle.task_words.specs.Formats.{format_of, named_format}
use Rattle.task_words.specs.WordsFault.{IsFormatRefusal, IsUnknownFormat}
use Rattle.task_words.specs.declared.format.Format.{Format}
use Rattle.task_words.specs.declared.words.WordsFault.{WordsFault}
use Rattle.task_words.proofs.options.Call.format.Goals as goal

-- the form that the value names that was read
format_is : (found : Found) (name : Option Text) → name ≡ first_value found (codes "format")
    → format_of (rows_of found) ≡ named_format name
format_is found name read = ap named_format (sym (read ∙ first_value-rows found (codes "format")))

pub returns-in_default-clause-format : goal.returns-in_default-clause-format
returns-in_default-clause-format c = format_is (found_of c.args.self.now.options.now) None c.in_default.ensures

pub returns-in-Some-format_named-clause-format : goal.returns-in-Some-format_named-clause-format
returns-in-Some-format_named-clause-format c =
    format_is (found_of c.args.self.now.options.now) (Some c.in-Some.name.now) c.in-Some.ensures
    ∙ sym c.in-Some-format_named.ensures

-- the fault of a value that names no form
refused : (name : Text) (format : Option Format) (fault : WordsFault) → IsUnknownFormat name fault → format ≡ None
    → IsFormatRefusal format fault
refused name format fault (inl memory) none = inl memory
refused name format fault (inr (text, is, told)) none = inr (text, is, none)

pub returns-in-None-clause-refused : goal.returns-in-None-clause-refused
returns-in-None-clause-refused c =
    refused c.in-Some.name.now (format_of (rows_of (found_of c.args.self.now.options.now))) c.unknown_format.result c.unknown_format.ensures
    (format_is (found_of c.args.self.now.options.now) (Some c.in-Some.name.now) c.in-Some.ensures
    ∙ sym c.in-None.ensures)
