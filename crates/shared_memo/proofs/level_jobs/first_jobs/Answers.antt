use Rattle.std.proofs.Common.{rules, ◌≡◌, ℕ, ◌+◌, List, [], ◌∷◌, ◌++◌, length, ap, sym, ◌∙◌, arith}
use Rattle.std.specs.Prelude.{slice_index}
use Rattle.std.proofs.lemmas.List.FromFn.{length-map-range_with_len, map-range_with_len_more, get_or-map-range_with_len}
use Rattle.win_index.specs.Blocks.{block_count}
use Rattle.win_index.proofs.Windows.{job_number_at, jobs_below, length_jobs_below, no_jobs_below}
use Rattle.shared_memo.proofs.level_jobs.first_jobs.Goals as goal

pub loop-level-init : goal.loop-level-init
loop-level-init c =
    record { first = omega (arith, no_jobs_below c.args.plan.now.ids); few = omega arith; numbers = search rules }

pub loop-level-preserved : goal.loop-level-preserved
loop-level-preserved c =
    let inv = c.loop-level.invariant in
    let m = c.args.plan.now.ids in
    let k = c.loop-level.level in
    let count : c.blocks-first.result ≡ block_count m k = search rules in
    let pushed : c.push.new.self.items ≡ c.loop-level.numbers.items ++ c.loop-level.first ∷ [] = search rules in
    record {
      first = omega (arith, length_jobs_below m k, inv.first, count);
      few = omega (arith, inv.few, c.blocks-first.ensures.few);
      numbers = rw (pushed, inv.numbers, inv.first)
          (sym (map-range_with_len_more (λ level. length (jobs_below m level)) 0 k k (omega arith)));
    }

pub returns : goal.returns
returns c =
    let inv = c.loop-level.invariant in
    let m = c.args.plan.now.ids in
    let first : ℕ → ℕ = λ level. length (jobs_below m level) in
    let t = length c.args.plan.now.program.steps in
    let levels : c.loop-level.level ≡ t + 1 =
    omega (arith, c.rounds-level-end.ensures, c.shape-shape.ensures.rounds) in (
      ap length inv.numbers ∙ length-map-range_with_len first 0 c.loop-level.level ∙ levels,
      λ level number key.
          let at = get_or-map-range_with_len first 0 c.loop-level.level level level 0 (omega (arith, key.0))
          (omega arith) in
          job_number_at m t level number _ key.0 key.1 (ap (λ (l : List ℕ). slice_index l level + number) inv.numbers
          ∙ ap (λ n. n + number) at),
    )
