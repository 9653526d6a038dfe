use Rattle.std.proofs.Common.{◌∙◌, sym}
use Rattle.std.proofs.lemmas.Bool.{eq-eqb, eqb-true}
use Rattle.std.proofs.lemmas.Nat.Bits.{shr_and_one}
use Rattle.nbhd_check.proofs.masks.has_bit.Goals as goal

pub returns : goal.returns
returns c = (λ yes. sym (shr_and_one _ _) ∙ eqb-true _ _ yes, λ has. eq-eqb _ _ (shr_and_one _ _ ∙ has))
