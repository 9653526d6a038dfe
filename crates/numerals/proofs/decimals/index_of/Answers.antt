use Rattle.std.proofs.Common.{◌≢◌, ◌≡◌, ℕ, rules, tests}
use Rattle.std.proofs.lemmas.Iterator.{IsFirst-from_position, YieldsList-from_slice}
use Rattle.numerals.proofs.FirstByte.{first_byte}
use Rattle.numerals.proofs.decimals.index_of.Goals as goal

pub returns : goal.returns
returns c =
    first_byte c.args.text.now c.args.end c.position.result
    (IsFirst-from_position _ _ c.position.result (λ (b : ℕ). b ≡ c.args.end) (λ (b : ℕ). b ≢ c.args.end) c.position.ensures.ran
    (YieldsList-from_slice c.args.text.now (cc)) (λ x q k. search (rules, tests)) (λ x q k. search (rules, tests)))
