-- Corrected words in place of refused ones.
use Rattle.std.specs.Prelude.{◌≡◌, ◌||◌, Bool, true, List, [], ◌∷◌, not, bytes_eq}
use Rattle.std.specs.List.{list_any}
use Rattle.clap.specs.Words.{Text}
use Rattle.task_words.specs.CommandLine.{command_line}
use Rattle.task_words.specs.Words.{HasBadDemand, HasBadRing, IsCommand}
use Rattle.task_words.specs.declared.demand_fault.DemandFault.{DemandFault}

-- the words request a task: they are a command, whose ring text, if it takes one, is one, and whose options are a
-- demand, if it demands something
pub record IsRequest (words : List Text) : Type 0 where
  pub command : IsCommand words
  pub ring : ¬ HasBadRing words
  pub demand : (cause : DemandFault) → ¬ HasBadDemand words cause

-- whether this is the name of a command
abbrev pub is_command_name : Text → Bool
is_command_name name = list_any (λ command. bytes_eq command.name name) command_line.subs

-- whether the first word of `mended` is that of `words`, if that is the name of a command
abbrev pub is_of_command : List Text → List Text → Bool
is_of_command [] mended = true
is_of_command (first ∷ words) [] = not (is_command_name first)
is_of_command (first ∷ words) (own ∷ mended) = not (is_command_name first) || bytes_eq first own

-- words that request a task, of the same command where the first of the refused words is the name of one
pub record IsMended (words mended : List Text) : Type 0 where
  pub request : IsRequest mended
  pub same : is_of_command words mended ≡ true
