use Rattle.std.proofs.Common.{◌*◌, length, drop, ap, subst, sym, ◌∙◌}
use Rattle.std.proofs.lemmas.List.{take_at}
use Rattle.nbhd_check.specs.MiddleBuckets.{AreMiddleBuckets}
use Rattle.nbhd_check.specs.Buckets.{wide}
use Rattle.nbhd_check.proofs.MiddleSteps.{buckets_are}
use Rattle.nbhd_check.proofs.middle_buckets.middle_buckets.Goals as goal

pub returns-clause-all : goal.returns-clause-all
returns-clause-all g c =
    let new = c.fill_buckets.new.middles in
    let written = take_at new (drop (length new) c.in_ok-middles.middles.items) c.in_ok-middles.middles.len
    (c.fill_buckets.ensures.size ∙ c.deref_mut.ensures.len) in
    ap (λ list. length list * wide c.args.table.now) written
    ∙ ap (λ n. n * wide c.args.table.now) (c.fill_buckets.ensures.size ∙ c.deref_mut.ensures.len)
    ∙ buckets_are c.args.table.now c.windows_per_bucket.result c.window_count-windows.result c.in_ok-middles.middles.len
    c.windows_per_bucket.ensures.table c.windows_per_bucket.ensures.value c.window_count-windows.ensures.value c.in_ok-middles.ensures.len

pub returns-clause-buckets : goal.returns-clause-buckets
returns-clause-buckets g c =
    let new = c.fill_buckets.new.middles in
    let written = take_at new (drop (length new) c.in_ok-middles.middles.items) c.in_ok-middles.middles.len
    (c.fill_buckets.ensures.size ∙ c.deref_mut.ensures.len) in
    subst (AreMiddleBuckets c.args.table.now 0) (sym written) c.fill_buckets.ensures.buckets
