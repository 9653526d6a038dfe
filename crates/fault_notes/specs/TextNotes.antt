-- The note on a fault of a program text.
use Rattle.std.specs.Prelude.{◌≡◌, ℕ, ◌++◌, List, [], ◌∷◌, drop, codes, Option, IfSome}
use Rattle.node_lang.specs.declared.fault.FaultKind.{FaultKind}
use Rattle.node_lang.specs.declared.fault.FaultKind.TheVariants as kind
use Rattle.node_lang.specs.declared.expected.Expected.{Expected}
use Rattle.node_lang.specs.Following.{IsExpected}
use Rattle.source_text.specs.Heads.{note_head}
use Rattle.source_text.specs.Shown.{shown, marked_line}
use Rattle.source_text.specs.KindAdvice.{IsAdviceOn, IsOfKind}
use Rattle.source_text.specs.declared.kinds.TextKind.TheVariants.{Program}
use Rattle.fault_notes.specs.Words.{wanted_part, first_word}
use Rattle.fault_notes.specs.declared.edits.Edit.{Edit}
use Rattle.fault_notes.specs.Repairs.{IsRepair, optional_text}

-- a word in quotes, as it is shown
abbrev pub quoted : List ℕ → List ℕ
quoted word = codes "`" ++ (shown word ++ codes "`")

-- The cause at an offset, from the word there and what can follow there. A text that is too long has no such offset.
abbrev pub cause_of : FaultKind → List ℕ → Option Expected → List ℕ
cause_of kind.TooLong word w = []
cause_of kind.NotAscii word w = codes "a byte over 127; a program text is ASCII, in its comments too"
cause_of kind.BadWord word w = codes "unknown word " ++ (quoted word ++ wanted_part w)
cause_of kind.NumberTooLarge word w = codes "a number is at most 4294967295"
cause_of kind.HeaderRange word w =
    codes "a number out of its range: `rounds` is 0 to 4, `channels` 1 to 4096, `registers` 1 to 8"
cause_of kind.Unexpected word w = codes "unexpected " ++ (quoted word ++ wanted_part w)
cause_of kind.TooDeep word w = codes "an expression is at most 64 deep"
cause_of kind.TooManyNodes word w = codes "the expressions of a program have at most 4096 numbers, words and operations"
cause_of kind.EndOfText word w = codes "unexpected end of the text" ++ wanted_part w
cause_of kind.OutOfMemory word w = []

-- Advice is a fact on the language, which may be empty, and then perhaps what an edit tells one to do, which has
-- been tried.
pub record IsAdvice (text : List ℕ) (offset : ℕ) (advice : List ℕ) : Type 0 where
  pub fact : List ℕ
  pub repair : Option Edit
  pub helps : IfSome repair (IsRepair text offset)
  pub is : advice ≡ fact ++ optional_text text repair

-- The note on this fault has its location and its cause, with what is expected there, perhaps followed by advice.
pub record IsTextNote (text : List ℕ) (k : FaultKind) (offset : ℕ) (note : List ℕ) : Type 0 where
  pub wanted : Option Expected
  pub is_wanted : IsExpected text k offset wanted
  pub advice : List ℕ
  pub is_advice : IsAdvice text offset advice
  pub is : note ≡ note_head text offset
      ++ (cause_of k (first_word (drop offset text)) wanted ++ (advice ++ 10 ∷ marked_line text offset))

-- the note on a text that is too long, with advice if it looks like one of another kind
pub data IsLongNote (text note : List ℕ) : Type 0 where
  other : (advice : List ℕ) → IsAdviceOn text Program advice →
      note ≡ codes "nbhd: a program text has at most 65536 bytes" ++ (advice ++ codes "\n") → IsLongNote text note
  own : IsOfKind text Program → note ≡ codes "nbhd: a program text has at most 65536 bytes\n" → IsLongNote text note
