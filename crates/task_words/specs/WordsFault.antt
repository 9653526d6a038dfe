-- Faults of words, and the exit status after them.
use Rattle.std.specs.Prelude.{◌≡◌, ◌⊎◌, ℕ, List, Option, Some, None, Result, Err, IfErr, String, codes}
use Rattle.std.specs.Prelude.{option_map, string_bytes}
use Rattle.std.specs.declared.alloc.Global.{Global}
use Rattle.task_words.specs.Formats.{format_text}
use Rattle.task_words.specs.declared.demand_fault.DemandFault.{DemandFault}
use Rattle.task_words.specs.declared.demand_fault.DemandFault.TheVariants.{BadPattern}
use Rattle.task_words.specs.declared.demand_fault.PatternFault.{PatternFault}
use Rattle.task_words.specs.declared.format.Format.{Format}
use Rattle.task_words.specs.declared.words.WordsFault.{WordsFault}
use Rattle.task_words.specs.declared.words.WordsFault.TheVariants.{Usage, BadRing, BadDemand, OutOfMemory, Help}

-- a fact that holds unless memory was refused
abbrev pub MemoryAside : {T : Type 0} → Result T WordsFault → Type 0 → Type 0
MemoryAside result fact = ¬ (result ≡ Err OutOfMemory) → fact

-- if the result is a fault, it is OutOfMemory, or BadRing, for this cause
abbrev pub FailsBy : {T : Type 0} → Result T WordsFault → Type 0 → Type 0
FailsBy result cause = IfErr result (λ fault. (fault ≡ OutOfMemory) ⊎ ((fault ≡ BadRing) × cause))

-- the fault is OutOfMemory, or BadDemand, for this cause
abbrev pub IsDemandRefusal : Option DemandFault → WordsFault → Type 0
IsDemandRefusal cause fault =
    (fault ≡ OutOfMemory) ⊎ ((known : DemandFault) × (fault ≡ BadDemand known) × (cause ≡ Some known))

-- the fault is OutOfMemory, or says that a text is no pattern text, for this cause
abbrev pub IsPatternRefusal : Option PatternFault → WordsFault → Type 0
IsPatternRefusal cause fault = IsDemandRefusal (option_map BadPattern cause) fault

-- the fault is OutOfMemory, or Usage, where no form of a report is named
abbrev pub IsFormatRefusal : Option Format → WordsFault → Type 0
IsFormatRefusal format fault = (fault ≡ OutOfMemory) ⊎ ((text : String Global) × (fault ≡ Usage text) × (format ≡ None))

-- the fault is OutOfMemory, or Usage with the text on this value of `--format`
abbrev pub IsUnknownFormat : List ℕ → WordsFault → Type 0
IsUnknownFormat name fault =
    (fault ≡ OutOfMemory) ⊎ ((text : String Global) × (fault ≡ Usage text) × (string_bytes text ≡ format_text name))

-- the result is a fault of usage
abbrev pub IsUsage : {T : Type 0} → Result T WordsFault → Type 0
IsUsage result = (text : String Global) × (result ≡ Err (Usage text))

-- the result is a help text
abbrev pub IsHelp : {T : Type 0} → Result T WordsFault → Type 0
IsHelp result = (text : String Global) × (result ≡ Err (Help text))

-- the fault says that a word is not UTF-8
abbrev pub IsNotUtf8 : WordsFault → Type 0
IsNotUtf8 fault = (text : String Global) × (fault ≡ Usage text)
    × (string_bytes text ≡ codes "nbhd: words are not UTF-8\n")

-- the exit status for each fault of the words
abbrev pub words_fault_code : WordsFault → ℕ
words_fault_code (Usage text) = 2
words_fault_code BadRing = 2
words_fault_code (BadDemand cause) = 2
words_fault_code OutOfMemory = 6
words_fault_code (Help text) = 0
