-- The requests or faults that the words of the process are parsed to, and the tips on them.
use Rattle.std.specs.Prelude.{◌≡◌, ◌↔◌, ◌⊎◌, Option, Some, None, List, Result, Ok, Err, String, IfOk, IfSome, IfNone}
use Rattle.std.specs.Prelude.{IsOk, IsErrOf, MatchOption, string_bytes}
use Rattle.std.specs.Option.{option_map}
use Rattle.std.specs.declared.alloc.Global.{Global}
use Rattle.clap.specs.Words.{Text}
use Rattle.task_words.specs.PatternTips.{demand_line, pattern_tip}
use Rattle.task_words.specs.RingText.{IsRingText}
use Rattle.task_words.specs.RingTips.{IsRingTip, ring_word}
use Rattle.task_words.specs.Task.{IsFormula, IsInRange}
use Rattle.task_words.specs.Words.{IsCommand, AsksForHelp, IsFormatOf, IsRefused, HasBadDemand, HasBadRing, IsTaskOf}
use Rattle.task_words.specs.WordsFault.{MemoryAside, IsUsage, IsHelp, IsNotUtf8}
use Rattle.task_words.specs.declared.demand_fault.DemandFault.{DemandFault}
use Rattle.task_words.specs.declared.demand_fault.DemandFault.TheVariants.{BadPattern}
use Rattle.task_words.specs.declared.format.Format.TheVariants.{Lines}
use Rattle.task_words.specs.declared.request.Request.{Request}
use Rattle.task_words.specs.declared.task.Task.{Task}
use Rattle.task_words.specs.declared.words.WordsFault.{WordsFault}
use Rattle.task_words.specs.declared.words.WordsFault.TheVariants.{BadRing, BadDemand, OutOfMemory}

-- What `task_of` returns for these words: memory aside, a task exactly if they are a command whose ring text, if it has
-- one, is one, and whose options, if it demands something of channels, are a demand.
pub record IsParsedFrom (words : List Text) (result : Result Task WordsFault) : Type 0 where
  pub task : IfOk result (λ task. IsCommand words × IsTaskOf words task)
  pub range : IfOk result IsInRange
  pub ok : MemoryAside result (IsOk result
      ↔ (IsCommand words × (¬ HasBadRing words) × ((cause : DemandFault) → ¬ HasBadDemand words cause)))
  pub bad_ring : MemoryAside result (IsErrOf result BadRing ↔ HasBadRing words)
  pub bad_demand : (cause : DemandFault)
      → MemoryAside result (IsErrOf result (BadDemand cause) ↔ HasBadDemand words cause)
  pub usage : IsUsage result → IsRefused words
  pub help : IsHelp result → AsksForHelp words

-- the task of a request, or the fault of the words without one
abbrev pub task_in : Result Request WordsFault → Result Task WordsFault
task_in (Ok request) = Ok request.task
task_in (Err fault) = Err fault

-- What `request_of` returns for these words: a request with their task and the form of its report, which for a
-- formula is lines, or the fault for which they have no task.
pub record IsRequestFrom (words : List Text) (result : Result Request WordsFault) : Type 0 where
  pub task : IsParsedFrom words (task_in result)
  pub format : IfOk result (λ request. IsFormatOf words request.format)
  pub formula : IfOk result (λ request. IsFormula request.task → request.format ≡ Lines)

-- the words of the process were not read: one is not UTF-8, or memory was refused
abbrev pub IsUnread : WordsFault → Type 0
IsUnread fault = IsNotUtf8 fault ⊎ (fault ≡ OutOfMemory)

-- the result is that of `request_of` for some words, or the words of the process were not read
abbrev pub IsParsed : Result Request WordsFault → Type 0
IsParsed result = ((words : List Text) × IsRequestFrom words result)
    ⊎ ((fault : WordsFault) × (result ≡ Err fault) × IsUnread fault)

-- The line on the cause of the fault of words that are a command: on a bad ring text that on the text; on a bad
-- pattern text that on the first one; on other options that are no demand that on the cause; on other faults none.
abbrev pub IsCauseLine : List Text → WordsFault → Option (String Global) → Type 0
IsCauseLine words BadRing line =
    MatchOption (ring_word words) (line ≡ None)
    (λ text. IfSome line (λ line. IsRingTip text (string_bytes line)) × IfNone line (IsRingText text))
IsCauseLine words (BadDemand (BadPattern cause)) line = option_map string_bytes line ≡ pattern_tip words
IsCauseLine words (BadDemand cause) line = option_map string_bytes line ≡ Some (demand_line cause)
IsCauseLine words _ line = line ≡ None
