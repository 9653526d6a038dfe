use Rattle.std.proofs.Common.{◌≡◌, ℕ, ◌+◌, ◌-◌, ◌<◌, ◌≤◌, length, drop, sym, ◌∙◌, arith, ⊎_elim, length-drop}
use Rattle.std.proofs.lemmas.Bool.{false≢true, cases_lt}
use Rattle.std.proofs.lemmas.List.{get_or-take, get_or-drop, length-take-le, take_all}
use Rattle.nbhd_check.proofs.gaps.has_close_outside.Goals as goal

pub returns-else-has_close : goal.returns-else-has_close
returns-else-has_close c =
    let list = c.args.list.now in
    let gap : ℕ = c.args.gap in
    let from : ℕ = gap + 1 in
    let short = length-take-le gap list (omega (arith, c.requires)) in
    let long = length-drop from list in
    let later = rw (take_all (length list - from) (drop from list) (omega arith)) at c.has_close-else-has_close.ensures in (
      λ is.
          let found = later.0 is in
          (from + found.0, omega (arith, found.1), λ e. omega (arith, e), rw (← get_or-drop from list found.0 0) found.2),
      λ outside. ⊎_elim
          (λ (before : outside.0 < gap).
          absurd (false≢true (sym c.if-has_close.false
          ∙ c.has_close.ensures.1 (
            outside.0,
            omega (arith, before, short),
            rw (get_or-take gap list outside.0 0 before) outside.3,
          ))))
          (λ (after : gap ≤ outside.0).
          let back : from + (outside.0 - from) ≡ outside.0 = omega (arith, after, outside.2) in
          later.1 (outside.0 - from, omega (arith, back, outside.1), rw (get_or-drop from list (outside.0 - from) 0, back) outside.3))
          (cases_lt outside.0 gap),
    )
