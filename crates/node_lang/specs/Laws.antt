-- The statements of the laws of this crate, one definition each.
use Rattle.std.specs.Prelude.{◌≡◌, ℕ, ◌<◌, ◌≤◌, List, [], length, All, sum_by}
use Rattle.node_lang.specs.declared.limits.TheConstants.{LONGEST_TEXT}
use Rattle.node_lang.specs.declared.fault.FaultKind.{FaultKind}
use Rattle.node_program.specs.Term.{ProgramTree, size, terms}
use Rattle.node_program.specs.Limits.{IsWithinLimits}
use Rattle.node_lang.specs.Lexemes.{Lexeme, lexemes_of}
use Rattle.node_lang.specs.Grammar.{Reads}
use Rattle.node_lang.specs.Reading.{Got, Fault, program}
use Rattle.node_lang.specs.Printed.{printed}
use Rattle.node_lang.specs.Faults.{FaultsAt}
use Rattle.node_lang.specs.Viable.{FirstFault}
use Rattle.node_lang.specs.declared.expected.Expected.{Expected}
use Rattle.node_lang.specs.Following.{FollowsAt}

-- a text reads as at most one program
abbrev pub OneReading : Type 0
OneReading = (text : List ℕ) (p q : ProgramTree) → Reads text p → Reads text q → p ≡ q

-- reading a text from the left returns the program that it reads as, its number of nodes, and no lexemes left
abbrev pub ReadableTextsAreRead : Type 0
ReadableTextsAreRead = (text : List ℕ) (p : ProgramTree) → Reads text p →
    program 0 (lexemes_of text) ≡ Got p (sum_by size (terms p)) []

-- conversely, a short ASCII text reads as the program that is returned
abbrev pub ReadTextsAreReadable : Type 0
ReadTextsAreReadable = (text : List ℕ) (p : ProgramTree) (nodes : ℕ) (left : List Lexeme) →
    length text ≤ LONGEST_TEXT → All (λ b. b < 128) text →
    program 0 (lexemes_of text) ≡ Got p nodes left → Reads text p

-- the printed form of a program reads as that program
abbrev pub PrintedIsRead : Type 0
PrintedIsRead = (p : ProgramTree) → IsWithinLimits p → Reads (printed p) p

-- and is shorter than the longest text
abbrev pub PrintedIsShort : Type 0
PrintedIsShort = (p : ProgramTree) → IsWithinLimits p → length (printed p) < LONGEST_TEXT

-- a text has at most one fault
abbrev pub OneTextFault : Type 0
OneTextFault =
    (text : List ℕ) (k l : FaultKind) (m n : ℕ) → FaultsAt text k m → FaultsAt text l n → (k ≡ l) × (m ≡ n)

-- a text that reads as a program has none
abbrev pub ReadableTextsHaveNoFault : Type 0
ReadableTextsHaveNoFault =
    (text : List ℕ) (p : ProgramTree) (k : FaultKind) (offset : ℕ) → Reads text p → FaultsAt text k offset → ⊥

-- where reading stops is the first fault of the lexemes, and what was expected there can follow
abbrev pub ReadingStopsAtFirstFault : Type 0
ReadingStopsAtFirstFault =
    (lexemes : List Lexeme) (k : FaultKind) (e : Expected) (from : ℕ) → program 0 lexemes ≡ Fault k e from →
    FirstFault [] lexemes k from × FollowsAt [] lexemes from e

-- and their first fault is where reading stops
abbrev pub FirstFaultStopsReading : Type 0
FirstFaultStopsReading =
    (lexemes : List Lexeme) (k : FaultKind) (from : ℕ) → FirstFault [] lexemes k from →
    (e : Expected) × (program 0 lexemes ≡ Fault k e from)
