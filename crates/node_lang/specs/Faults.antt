-- The fault of a whole text: that it is too long, else the first byte over 127, else the first fault of its lexemes.
use Rattle.std.specs.Prelude.{◌≡◌, ℕ, ◌+◌, ◌<◌, ◌≤◌, List, [], length, All, take, slice_index}
use Rattle.node_lang.specs.declared.limits.TheConstants.{LONGEST_TEXT}
use Rattle.node_lang.specs.declared.fault.FaultKind.{FaultKind}
use Rattle.node_lang.specs.declared.fault.FaultKind.TheVariants as kind
use Rattle.node_lang.specs.Lexemes.{lexemes_of}
use Rattle.node_lang.specs.Viable.{FirstFault}

-- the first byte over 127 stands at this offset
pub record IsFirstHighByte (text : List ℕ) (offset : ℕ) : Type 0 where
  pub within : offset < length text
  pub high : 128 ≤ slice_index text offset
  pub before : All (λ b. b < 128) (take offset text)

-- the fault of a text, and its offset
pub data FaultsAt (text : List ℕ) : FaultKind → ℕ → Type 0 where
  too_long : LONGEST_TEXT < length text → FaultsAt text kind.TooLong LONGEST_TEXT
  not_ascii : (offset : ℕ) → length text ≤ LONGEST_TEXT → IsFirstHighByte text offset →
      FaultsAt text kind.NotAscii offset
  in_lexemes : (k : FaultKind) (offset from : ℕ) → length text ≤ LONGEST_TEXT → All (λ b. b < 128) text →
      FirstFault [] (lexemes_of text) k from → offset + from ≡ length text → FaultsAt text k offset
