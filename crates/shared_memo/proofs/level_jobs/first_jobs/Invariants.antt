use Rattle.std.proofs.Common.{◌≡◌, ◌*◌, ◌≤◌, length, map}
use Rattle.std.specs.List.{range_with_len}
use Rattle.win_index.specs.declared.limits.TheConstants.{MAX_BLOCKS}
use Rattle.win_index.proofs.Windows.{jobs_below}
use Rattle.shared_memo.proofs.level_jobs.first_jobs.Given as goal

abbrev pub invariant-loop-level : goal.invariant-loop-level
invariant-loop-level l = record {
  first : l.first ≡ length (jobs_below l.plan.ids l.level);
  few : l.first ≤ MAX_BLOCKS * l.level;
  numbers : l.numbers.items ≡ map (λ level. length (jobs_below l.plan.ids level)) (range_with_len 0 l.level);
}
