use Rattle.std.proofs.Common.{◌+◌, ◌<◌, ◌≤◌, get_or, arith, ⊎_elim}
use Rattle.std.proofs.lemmas.Bool.{cases_lt}
use Rattle.nbhd_check.proofs.far_counts.Family.free_with_seconds.Goals as goal

pub numbers_of-numbers-requires : goal.numbers_of-numbers-requires
numbers_of-numbers-requires c = c.requires.seconds.windows c.args.low (omega arith) c.requires.seconds.some

-- The two identifiers are those of a window.
pub free_with_both-least-requires-clause-ids : goal.free_with_both-least-requires-clause-ids
free_with_both-least-requires-clause-ids c =
    let window = c.requires.seconds.windows c.loop-second.second (omega (arith, c.loop-second.auto.second)) c.loop-second-test.true in
    (window.below 0 0 (omega (arith, window.size)), window.below 1 0 (omega (arith, window.size)))

pub loop-second-preserved : goal.loop-second-preserved
loop-second-preserved c =
    let before = c.loop-second.invariant in (
      omega (arith, c.free_with_both-least.ensures.less, before.0),
      λ number window below item own. ⊎_elim
          (λ (lt : get_or window 1 0 < c.loop-second.second).
          before.1 number window (omega (arith, below, c.free_with_both-least.ensures.less)) item
          (own.0, own.1, lt, own.3))
          (λ (ge : c.loop-second.second ≤ get_or window 1 0).
          c.free_with_both-least.ensures.free number window below item (own.0, omega (arith, own.2, ge), own.3))
          (cases_lt (get_or window 1 0) c.loop-second.second),
      λ more.
          c.stepped-numbers.ensures c.args.first c.loop-second.second (before.2 c.loop-second-test.true)
          (c.requires.seconds.windows (c.loop-second.second + 1) (omega (arith, c.loop-second.auto.second)) more),
    )
