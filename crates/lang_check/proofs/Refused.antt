-- The refusals of a program exclude each other and acceptance.
use Rattle.std.proofs.Common.{refl, sym, ◌∙◌, ap, arith}
use Rattle.std.proofs.lemmas.Option.{same_Some}
use Rattle.lang_check.specs.Laws.{OneRefusal, AcceptedProgramsHaveNoRefusal}
use Rattle.lang_check.specs.declared.acceptance.CheckFault.TheVariants.{IdsOutOfRange, TooManyWindows}
use Rattle.lang_check.specs.declared.acceptance.CheckFault.TheVariants.{RegisterOutOfRange, IdOutsideStart}
use Rattle.lang_check.specs.declared.acceptance.CheckFault.TheVariants.{MessageOutsideStep, ChannelBound}

pub one_refusal : OneRefusal
one_refusal m p IdsOutOfRange IdsOutOfRange a b = refl
one_refusal m p TooManyWindows TooManyWindows a b = refl
one_refusal m p (RegisterOutOfRange i) (RegisterOutOfRange j) a b =
    ap RegisterOutOfRange (same_Some i j (sym a.1 ∙ b.1))
one_refusal m p IdOutsideStart IdOutsideStart a b = refl
one_refusal m p MessageOutsideStep MessageOutsideStep a b = refl
one_refusal m p (ChannelBound i) (ChannelBound j) a b = ap ChannelBound (a.5 ∙ sym b.5)
one_refusal m p f g a b = absurd (grind arith)

pub no_refusal : AcceptedProgramsHaveNoRefusal
no_refusal m p IdsOutOfRange a b = b a.shape.ids
no_refusal m p TooManyWindows a b = b.1 a.shape.few_windows
no_refusal m p f a b = grind arith
