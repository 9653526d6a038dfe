use Rattle.std.proofs.Common.{◌≡◌, None, IsSome, subst}
use Rattle.round_eval.specs.Entries.{Entries}
use Rattle.fill_core.proofs.KnownSources.{all_below, missing_below, same_block}
use Rattle.fill_core.proofs.installs.make_known.Goals as goal

pub returns-in-Ok : goal.returns-in-Ok
returns-in-Ok c =
    let known = c.args.known.now in
    let made = c.in-Ok.ensures.made in (
      same_block c.args.plan.now c.args.level c.args.number c.args.maker c.in-Ok.block made.plan_is made.level_is made.number_is made.maker_is,
      all_below c.args.plan.now known.plan.now known.cells.now known.knows.now c.args.level c.args.number c.requires.plan
          (λ low b below. subst (λ (e : Entries). IsSome (e low b)) c.in-Ok.ensures.asked.asked.same_fixed (made.known low b below)),
    )

pub returns-in-Err-Missing : goal.returns-in-Err-Missing
returns-in-Err-Missing c =
    let known = c.args.known.now in
    let low = c.in-Err-Missing.field-0-0 in
    let b = c.in-Err-Missing.field-0-1 in
    let made = rw c.in-Err-Missing.field-0-is at c.in-Err-Missing.ensures.made in
    missing_below c.args.plan.now known.plan.now known.cells.now known.knows.now c.args.level c.args.number low b c.requires.plan c.requires.full made.0
    (subst (λ (e : Entries). e low b ≡ None) c.in-Err-Missing.ensures.asked.asked.same_fixed made.1)
