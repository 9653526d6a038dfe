use Rattle.std.proofs.Common.{◌+◌, ◌*◌, ◌%◌, get_or, subst, ap, sym}
use Rattle.std.proofs.lemmas.Bool.{OnFalse_from}
use Rattle.nbhd_check.specs.Masks.{HasBitsOf}
use Rattle.nbhd_check.specs.PatternSearch.{IsNoMiddle}
use Rattle.nbhd_check.proofs.PatternSteps.{nothing}
use Rattle.nbhd_check.proofs.SingleSteps.{no_middle}
use Rattle.nbhd_check.proofs.problem_least.may_be_middle.Goals as goal

pub returns : goal.returns
returns c problem are below =
    let t = c.args.table.now in
    let number = c.args.number in
    let same = ap (λ list. get_or list number 0) c.entries.ensures.value in
    OnFalse_from _ (IsNoMiddle t problem number) (λ no.
    no_middle t problem c.args.bits.now c.args.limit number c.thirds_after.result c.without-others.result c.entries.ensures.table are below c.requires.number
    (λ place lt other. c.without-others.ensures t.entries number place c.requires.words c.requires.number (sym same) lt other)
    (λ a low has. subst (λ b. HasBitsOf c.thirds_after.result (get_or c.args.bits.now (a % 64 * 64 + b % 64) 0)) same (c.thirds_after.ensures a low has))
    (nothing _ no))
