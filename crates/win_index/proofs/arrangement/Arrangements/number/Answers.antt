use Rattle.std.proofs.Common.{◌≡◌, ◌+◌, length, Some, sym, ap, ◌∙◌, arith}
use Rattle.std.proofs.lemmas.List.{take_all}
use Rattle.std.proofs.lemmas.Option.{slice_get_within}
use Rattle.win_index.specs.Windows.{windows}
use Rattle.win_index.proofs.Numbers.{windows-zero}
use Rattle.win_index.proofs.Positions.{front_step}
use Rattle.win_index.proofs.arrangement.Arrangements.number.Goals as goal

pub loop-place-init : goal.loop-place-init
loop-place-init c = rw (windows-zero c.args.self.ids)

pub loop-place-preserved : goal.loop-place-preserved
loop-place-preserved c =
    rw (c.from.ensures, c.unused_below-digit.ensures) (front_step c.args.self.len c.args.self.ids c.loop-place.place
    c.loop-place.number c.args.list.now c.requires (omega (arith, c.requires.size)) c.loop-place.invariant)

-- it is below the number of lists
pub overflow_add-number : goal.overflow_add-number
overflow_add-number c =
    let at' = loop-place-preserved c in
    let within = slice_get_within (windows (c.loop-place.place + 1) c.args.self.ids) _ _ at' in
    omega (arith, within, c.args.self.few (c.loop-place.place + 1) (omega (arith, c.requires.size)))

pub overflow_mul-number : goal.overflow_mul-number
overflow_mul-number c = omega (arith, overflow_add-number c)

pub returns-clause-item : goal.returns-clause-item
returns-clause-item c =
    let list = c.args.list.now in
    let all : c.loop-place.place ≡ length list = omega arith in
    rw (sym c.requires.size, ← all) (c.loop-place.invariant ∙ ap Some (take_all c.loop-place.place list (omega arith)))

pub returns-clause-below : goal.returns-clause-below
returns-clause-below c = slice_get_within _ _ _ (returns-clause-item c)
