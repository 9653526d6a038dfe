-- Pattern texts: a pattern of channels in one word, and why a text is none.
use Rattle.std.specs.Prelude.{◌≡◌, ◌⊎◌, ◌≤◌, ◌^◌, ◌==◌, ◌&&◌, ℕ, Bool, not, Option, Some, None, List, [], length}
use Rattle.std.specs.Prelude.{slice_get, nat_lt, codes, bytes_eq, All, if◌then◌else◌}
use Rattle.std.specs.Char.{is_ascii_digit}
use Rattle.std.specs.List.{list_all, list_any}
use Rattle.std.specs.Option.{option_and_then, option_map_or, option_or}
use Rattle.std.specs.Str.Parse.{digits_value}
use Rattle.ring_problems.specs.declared.pattern.Entry.{Entry}
use Rattle.ring_problems.specs.declared.pattern.Entry.TheVariants.{Wildcard, Channel}
use Rattle.ring_problems.specs.declared.pattern.Pattern.{Pattern}
use Rattle.task_words.specs.Decimal.{IsNumber, number_in}
use Rattle.task_words.specs.RingText.{parts_of}
use Rattle.task_words.specs.declared.demand_fault.PatternFault.{PatternFault}
use Rattle.task_words.specs.declared.demand_fault.PatternFault.TheVariants.{NoEntry, Blank, ManyEntries}
use Rattle.task_words.specs.declared.demand_fault.PatternFault.TheVariants.{NoChannel, LargeChannel}

-- an entry: `*`, or a number
abbrev pub IsEntry : List ℕ → Type 0
IsEntry part = (part ≡ codes "*") ⊎ IsNumber part

-- a pattern text: one to three entries, separated by single commas
pub record IsPatternText (text : List ℕ) : Type 0 where
  pub each : All IsEntry (parts_of text)
  pub few : length (parts_of text) ≤ 3

-- the entry of a part: `*` is a wildcard, and a number a channel
abbrev pub entry_in : List ℕ → Entry
entry_in part = if bytes_eq part (codes "*") then Wildcard else Channel (number_in part)

-- the entry of the part with this index, and a wildcard if there is no such part
abbrev pub entry_at : List (List ℕ) → ℕ → Entry
entry_at parts index = option_map_or entry_in (slice_get parts index) Wildcard

-- the pattern of these parts
abbrev pub pattern_of_parts : List (List ℕ) → Pattern
pattern_of_parts parts = record { first = entry_at parts 0; second = entry_at parts 1; third = entry_at parts 2 }

-- the pattern of a pattern text
abbrev pub pattern_in : List ℕ → Pattern
pattern_in text = pattern_of_parts (parts_of text)

-- ---- why a text is no pattern text

-- whether a text is one or more decimal digits
abbrev pub is_numeral : List ℕ → Bool
is_numeral text = nat_lt 0 (length text) && list_all is_ascii_digit text

-- whether a text has a blank (byte 32)
abbrev pub has_blank : List ℕ → Bool
has_blank text = list_any (λ byte. byte == 32) text

-- why a part that is neither `*` nor decimal digits is no entry
abbrev pub word_fault : List ℕ → PatternFault
word_fault part = if bytes_eq part [] then NoEntry else if has_blank part then Blank else NoChannel

-- why a part is no entry, if it is none
abbrev pub entry_fault : List ℕ → Option PatternFault
entry_fault part =
    if bytes_eq part (codes "*") then None
    else if not (is_numeral part) then Some (word_fault part)
    else if nat_lt (digits_value 10 part) (2 ^ 32) then None
    else Some LargeChannel

-- why the part with this index is no entry, if there is such a part and it is none
abbrev pub fault_at : List (List ℕ) → ℕ → Option PatternFault
fault_at parts index = option_and_then entry_fault (slice_get parts index)

-- why these parts are not at most three entries: there are more, or the first that is none
abbrev pub parts_fault : List (List ℕ) → Option PatternFault
parts_fault parts =
    if nat_lt 3 (length parts) then Some ManyEntries
    else option_or (fault_at parts 0) (option_or (fault_at parts 1) (fault_at parts 2))

-- why a text is no pattern text, if it is none
abbrev pub pattern_fault : List ℕ → Option PatternFault
pattern_fault text = parts_fault (parts_of text)
