use Rattle.std.proofs.Common.{sym, ◌∙◌, arith}
use Rattle.std.specs.Prelude.{codes}
use Rattle.numerals.proofs.NumbersInTexts.{field_once}
use Rattle.table_text.proofs.lines.two_distances.Goals as goal

pub returns-in_err-far-clause-none : goal.returns-in_err-far-clause-none
returns-in_err-far-clause-none c = rw c.from_residual-in_err-far.ensures (λ s rest told same.
    let first = field_once (codes "near ") 32 c.in_ok-near.near s.near c.in_ok-near.rest.now _ (omega arith)
    c.in_ok-near.ensures.fits
    (omega (arith, told.small_near)) (sym c.in_ok-near.ensures.field ∙ same) in
    c.in_err-far.ensures.none s.far rest (omega (arith, told.small_far)) first.1)

pub returns-then-near-lt1-clause-none : goal.returns-then-near-lt1-clause-none
returns-then-near-lt1-clause-none c s rest told same =
    let first = field_once (codes "near ") 32 c.in_ok-near.near s.near c.in_ok-near.rest.now _ (omega arith)
    c.in_ok-near.ensures.fits
    (omega (arith, told.small_near)) (sym c.in_ok-near.ensures.field ∙ same) in
    omega (arith, first.0, told.some_near, c.if-near-lt1.true)

pub returns-then-near-gt-MAX_CHANNELS-clause-none : goal.returns-then-near-gt-MAX_CHANNELS-clause-none
returns-then-near-gt-MAX_CHANNELS-clause-none c s rest told same =
    let first = field_once (codes "near ") 32 c.in_ok-near.near s.near c.in_ok-near.rest.now _ (omega arith)
    c.in_ok-near.ensures.fits
    (omega (arith, told.small_near)) (sym c.in_ok-near.ensures.field ∙ same) in
    omega (arith, first.0, told.small_near, c.if-near-gt-MAX_CHANNELS.true)

pub returns-then-far-gt-MAX_CHANNELS-clause-none : goal.returns-then-far-gt-MAX_CHANNELS-clause-none
returns-then-far-gt-MAX_CHANNELS-clause-none c s rest told same =
    let first = field_once (codes "near ") 32 c.in_ok-near.near s.near c.in_ok-near.rest.now _ (omega arith)
    c.in_ok-near.ensures.fits
    (omega (arith, told.small_near)) (sym c.in_ok-near.ensures.field ∙ same) in
    let second = field_once (codes "far ") 10 c.in_ok-far.far s.far c.in_ok-far.rest.now _ (omega arith)
    c.in_ok-far.ensures.fits
    (omega (arith, told.small_far)) (sym c.in_ok-far.ensures.field ∙ first.1) in
    omega (arith, second.0, told.small_far, c.if-far-gt-MAX_CHANNELS.true)
