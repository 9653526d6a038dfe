use Rattle.std.proofs.Common.{◌≡◌, ℕ, ◌-◌, ◌≤◌, List, length, drop}
use Rattle.node_lang.specs.Lexemes.{lexemes_of}
use Rattle.node_lang.proofs.lexer.token_start.Given as goal

-- no token stands before this offset
pub record HasSkipped (text : List ℕ) (at : ℕ) : Type 0 where
  pub within : at ≤ length text
  pub same : lexemes_of (drop at text) ≡ lexemes_of text

abbrev pub invariant-skips : goal.invariant-skips
invariant-skips l = HasSkipped l.text l.at

abbrev pub decreases-skips : goal.decreases-skips
decreases-skips l = length l.text - l.at
