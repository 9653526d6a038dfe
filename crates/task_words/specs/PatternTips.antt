-- The tip on words whose options are no demand.
use Rattle.std.specs.Prelude.{ℕ, ◌++◌, Option, None, List, [], ◌∷◌, codes, option_map}
use Rattle.std.specs.Option.{option_and_then, option_or}
use Rattle.source_text.specs.Shown.{escaped_bytes}
use Rattle.task_words.specs.OptionWords.{option_value}
use Rattle.task_words.specs.PatternText.{pattern_fault}
use Rattle.task_words.specs.declared.demand_fault.DemandFault.{DemandFault}
use Rattle.task_words.specs.declared.demand_fault.DemandFault.TheVariants.{TwoDemands, UnknownProblem}
use Rattle.task_words.specs.declared.demand_fault.DemandFault.TheVariants.{ManyPatterns, BadPattern}
use Rattle.task_words.specs.declared.demand_fault.PatternFault.{PatternFault}
use Rattle.task_words.specs.declared.demand_fault.PatternFault.TheVariants.{ManyEntries, NoEntry, Blank}
use Rattle.task_words.specs.declared.demand_fault.PatternFault.TheVariants.{NoChannel, LargeChannel}

-- what is wrong with a text that is no pattern text
abbrev pub fault_text : PatternFault → List ℕ
fault_text ManyEntries = codes "it has more than three entries"
fault_text NoEntry = codes "an entry is empty"
fault_text Blank = codes "it has a blank"
fault_text NoChannel = codes "an entry is neither a number nor `*`"
fault_text LargeChannel = codes "a channel is above 4294967295"

-- the line on a text that is no pattern text for this cause; each of its bytes is seen
abbrev pub text_line : List ℕ → PatternFault → List ℕ
text_line text cause = codes "nbhd: `" ++ (escaped_bytes text ++ (codes "` is no pattern: " ++ (fault_text cause
    ++ codes "; a pattern is one to three channels, or `*` for any, with single commas, as 1,1 or '0,*,0'")))

-- the line on a text, if it is no pattern text
abbrev pub text_tip : List ℕ → Option (List ℕ)
text_tip text = option_map (text_line text) (pattern_fault text)

-- the line on the value of `--forbid` that a word is or has, by the word before it, if it is no pattern text
abbrev pub word_tip : List ℕ → List ℕ → Option (List ℕ)
word_tip last word = option_and_then text_tip (option_value (codes "--forbid") (codes "--forbid=") last word)

-- the first such line on words; `last` is the word before them
abbrev pub tip_after : List ℕ → List (List ℕ) → Option (List ℕ)
tip_after last [] = None
tip_after last (word ∷ words) = option_or (word_tip last word) (tip_after word words)

-- the line on the first value of `--forbid` among words that is no pattern text
abbrev pub pattern_tip : List (List ℕ) → Option (List ℕ)
pattern_tip words = tip_after [] words

-- the line on options that are no demand
abbrev pub demand_line : DemandFault → List ℕ
demand_line TwoDemands =
    codes "nbhd: patterns by `--forbid`, a problem by `--problem`, or differences by `--near` and `--far`: one of these three is given"
demand_line UnknownProblem =
    codes "nbhd: `--problem` takes mis, matching or weak2; another problem is given by its patterns, as in `--forbid 1,1`"
demand_line ManyPatterns = codes "nbhd: `--forbid` is given at most 256 times"
demand_line (BadPattern cause) =
    codes "nbhd: a pattern is one to three channels, or `*` for any, with single commas, as 1,1 or '0,*,0'"
