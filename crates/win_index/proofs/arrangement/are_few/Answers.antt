use Rattle.std.proofs.Common.{◌≡◌, ◌+◌, arith}
use Rattle.std.proofs.lemmas.Bool.Decides.{nat_tests}
use Rattle.win_index.proofs.Numbers.{windows_more}
use Rattle.win_index.proofs.Sizes.{windows_rise}
use Rattle.win_index.proofs.arrangement.are_few.Goals as goal

pub returns-then-count-most : goal.returns-then-count-most
returns-then-count-most c =
    let place = c.loop-place.place in
    let less = windows_rise c.args.ids (place + 1) c.args.len (omega arith) c.requires in
    let many =
    rw (c.from.ensures, c.loop-place.invariant.0, ← windows_more place c.args.ids) at c.if-count-most.true in
    (λ h. absurd (grind (arith, nat_tests)), λ le. absurd (omega arith))

pub returns : goal.returns
returns c =
    let done : c.loop-place.place ≡ c.args.len = omega arith in
    let all = rw done at c.loop-place.invariant.0 in
    (λ h. grind (arith, nat_tests), λ le. grind (arith, nat_tests))
