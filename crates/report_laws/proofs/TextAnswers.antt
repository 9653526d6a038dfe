-- Each text reads as a program or has a fault.
use Rattle.std.proofs.Common.{◌≡◌, ℕ, suc, ◌+◌, ◌-◌, ◌<◌, ◌≤◌, Bool, true, false, List, [], ◌∷◌, ◌++◌, length, inl, inr}
use Rattle.std.proofs.Common.{refl, arith}
use Rattle.std.specs.Prelude.{◌⊎◌, All, if◌then◌else◌}
use Rattle.std.proofs.lemmas.Bool.{cases_lt}
use Rattle.std.proofs.lemmas.List.Elements.{All-cons, All-nil, All-head, All-tail}
use Rattle.node_lang.specs.declared.limits.TheConstants.{LONGEST_TEXT}
use Rattle.node_lang.specs.declared.fault.FaultKind.{FaultKind}
use Rattle.node_lang.specs.declared.fault.FaultKind.TheVariants as kind
use Rattle.node_lang.specs.declared.token.Token.{Token}
use Rattle.node_program.specs.Term.{ProgramTree}
use Rattle.node_lang.specs.Words.{is_blank, is_word_byte, mark_token}
use Rattle.node_lang.specs.Lexemes.{Lexeme, Split, blanked, joined, put_before, split_of, lexemes_of}
use Rattle.node_lang.specs.Grammar.{Reads}
use Rattle.node_lang.specs.Reading.{Read, Got, Fault, program}
use Rattle.node_lang.specs.Faults.{FaultsAt, too_long, not_ascii, in_lexemes, IsFirstHighByte}
use Rattle.node_lang.specs.Viable.{FirstFault}
use Rattle.node_lang.specs.Laws.{ReadTextsAreReadable, ReadingStopsAtFirstFault}
use Rattle.node_lang.proofs.Texts.{length-blanked}

-- the lexemes begin in the text
abbrev AreWithin : ℕ → List Lexeme → Type 0
AreWithin n = All (λ l. l.from ≤ n)

joined_within : (n count : ℕ) (word : List ℕ) (rest : List Lexeme) → count ≤ n → AreWithin n rest →
    AreWithin n (joined count word rest)
joined_within n count [] rest le within = within
joined_within n count (b ∷ bs) rest le within = All-cons (λ (l : Lexeme). l.from ≤ n) _ rest le within

-- what `put_before` gives for a byte of a word or not, and a blank or not
abbrev put_by : Bool → Bool → ℕ → ℕ → Split → Split
put_by t u b count after =
    if t then record { word = b ∷ after.word; rest = after.rest }
    else if u then record { word = []; rest = joined count after.word after.rest }
    else record {
      word = [];
      rest = record { from = count + 1; token = mark_token b }
          ∷ joined count after.word after.rest;
    }

put_within : (n b count : ℕ) (after : Split) → count + 1 ≤ n → AreWithin n after.rest →
    AreWithin n (put_before b count after).rest
put_within n b count after le within = by_kind (is_word_byte b) (is_blank b)
  where
    by_kind : (t u : Bool) → AreWithin n (put_by t u b count after).rest
    by_kind true u = within
    by_kind false true = joined_within n count after.word after.rest (omega (arith, le)) within
    by_kind false false =
        All-cons (λ (l : Lexeme). l.from ≤ n) _ _ le
        (joined_within n count after.word after.rest (omega (arith, le)) within)

split_within : (n : ℕ) (bs : List ℕ) → length bs ≤ n → AreWithin n (split_of bs).rest
split_within n [] le = All-nil (λ (l : Lexeme). l.from ≤ n)
split_within n (b ∷ bs) le =
    put_within n b (length bs) (split_of bs) (omega (arith, le)) (split_within n bs (omega (arith, le)))

lexemes_within : (text : List ℕ) → AreWithin (length text) (lexemes_of text)
unfolding lexemes_of
lexemes_within text =
    joined_within (length text) (length text) _ _ (omega arith)
    (split_within (length text) (blanked false text) (omega (arith, length-blanked false text)))

-- so the first fault is in it
fault_within : (n : ℕ) (before : List Token) (ls : List Lexeme) (k : FaultKind) (from : ℕ) → AreWithin n ls →
    FirstFault before ls k from → from ≤ n
fault_within n before [] k from within first = omega (arith, first.1)
fault_within n before (l ∷ ls) k from within (inl here) =
    let le : l.from ≤ n = All-head (λ (l : Lexeme). l.from ≤ n) l ls within in omega (arith, le, here.1)
fault_within n before (l ∷ ls) k from within (inr later) =
    fault_within n (before ++ l.token ∷ []) ls k from (All-tail (λ (l : Lexeme). l.from ≤ n) l ls within) later.1

-- a text is ASCII, or has a first byte over 127
abbrev IsAscii : List ℕ → Type 0
IsAscii = All (λ b. b < 128)

next_byte : (b : ℕ) (bs : List ℕ) → (b < 128) ⊎ (128 ≤ b) → IsAscii bs ⊎ ((offset : ℕ) × IsFirstHighByte bs offset)
    → IsAscii (b ∷ bs) ⊎ ((offset : ℕ) × IsFirstHighByte (b ∷ bs) offset)
next_byte b bs (inl low) (inl all) = inl (All-cons (λ b. b < 128) b bs low all)
next_byte b bs (inl low) (inr met) =
    inr (
      suc met.0,
      record {
        within = omega (arith, met.1.within);
        high = met.1.high;
        before = All-cons (λ b. b < 128) b _ low met.1.before;
      },
    )
next_byte b bs (inr high) rest = inr (0, record { within = omega arith; high = high; before = All-nil (λ b. b < 128) })

high_byte : (text : List ℕ) → IsAscii text ⊎ ((offset : ℕ) × IsFirstHighByte text offset)
high_byte [] = inl (All-nil (λ b. b < 128))
high_byte (b ∷ bs) = next_byte b bs (cases_lt b 128) (high_byte bs)

-- the text reads as a program, or has a fault
abbrev pub TextAnswer : List ℕ → Type 0
TextAnswer text = ((p : ProgramTree) × Reads text p) ⊎ ((k : FaultKind) × (offset : ℕ) × FaultsAt text k offset)

pub text_answer : ReadTextsAreReadable → ReadingStopsAtFirstFault → (text : List ℕ) → TextAnswer text
text_answer readable stops text = by_length (cases_lt LONGEST_TEXT (length text)) (high_byte text)
  where
    by_reading : length text ≤ LONGEST_TEXT → IsAscii text → (r : Read ProgramTree) →
        program 0 (lexemes_of text) ≡ r → TextAnswer text
    by_reading short ascii (Got p nodes left) is = inl (p, readable text p nodes left short ascii is)
    by_reading short ascii (Fault k e from) is =
        let first = (stops (lexemes_of text) k e from is).0 in
        let le = fault_within (length text) [] (lexemes_of text) k from (lexemes_within text) first in
        inr (k, length text - from, in_lexemes k (length text - from) from short ascii first (omega (arith, le)))

    by_length : (LONGEST_TEXT < length text) ⊎ (length text ≤ LONGEST_TEXT) →
        IsAscii text ⊎ ((offset : ℕ) × IsFirstHighByte text offset) → TextAnswer text
    by_length (inl long) bytes = inr (kind.TooLong, LONGEST_TEXT, too_long long)
    by_length (inr short) (inl ascii) = by_reading short ascii (program 0 (lexemes_of text)) refl
    by_length (inr short) (inr met) = inr (kind.NotAscii, met.0, not_ascii met.0 short met.1)
