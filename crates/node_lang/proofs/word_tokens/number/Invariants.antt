use Rattle.std.proofs.Common.{◌≡◌, ℕ, ◌<◌, ◌^◌, List, drop}
use Rattle.node_lang.specs.Words.{read_on}
use Rattle.node_lang.proofs.word_tokens.number.Given as goal

-- the number so far is small, and the digits left complete it
pub record HasRead (digits : List ℕ) (number i : ℕ) : Type 0 where
  pub small : number < 2 ^ 32
  pub all : read_on number (drop i digits) ≡ read_on 0 digits

abbrev pub invariant-digits : goal.invariant-digits
invariant-digits l = HasRead l.digits l.number l.byte-index
