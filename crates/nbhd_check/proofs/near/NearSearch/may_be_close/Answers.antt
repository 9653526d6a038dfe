use Rattle.std.proofs.Common.{◌≡◌, ℕ, ◌+◌, ◌*◌, ◌^◌, ◌<◌, ◌≤◌, length, get_or, take, drop, subst, sym, ap, ◌∙◌}
use Rattle.std.proofs.Common.{arith, length-drop}
use Rattle.std.proofs.lemmas.Bool.{OnFalse_at, OnFalse_from, false≢true}
use Rattle.std.proofs.lemmas.List.{length-take-le}
use Rattle.std.proofs.lemmas.Option.{slice_get_within}
use Rattle.channel_tables.specs.Tables.{windows_of}
use Rattle.nbhd_check.specs.Masks.{NoneClose}
use Rattle.nbhd_check.specs.Buckets.{AreFree, BeginsBadTuple, HasCloseOutside, second_bucket, second_gap, wide}
use Rattle.nbhd_check.proofs.SecondBuckets.{AtPlace, at_place, free_at, none_outside}
use Rattle.nbhd_check.proofs.near.NearSearch.may_be_close.Goals.{After-entries}
use Rattle.nbhd_check.proofs.near.NearSearch.may_be_close.Goals as goal

-- the window at the place, and the bucket of its second windows
module _ (c : After-entries) where
  here : AtPlace c.args.self.now.table.now c.args.buckets c.args.place
  here = at_place c.args.self.now.table.now c.args.buckets c.args.place c.entries.ensures.table.size c.requires.buckets
      c.requires.place

  -- its channel
  channel_is : get_or c.entries.result.now (c.args.buckets.bucket * c.windows_per_bucket-each.result + c.args.place) 0
      ≡ get_or c.args.self.now.table.now.entries
      (c.args.buckets.bucket * wide c.args.self.now.table.now + c.args.place) 0
  channel_is = λ q. get_or (c.entries.ensures.value q)
      (c.args.buckets.bucket * c.windows_per_bucket-each.ensures.value q + c.args.place) 0

  -- its number is small
  inside : c.args.buckets.bucket * c.windows_per_bucket-each.result + c.args.place < length c.entries.result.now
  inside =
      let t = c.args.self.now.table.now in
      let n : ℕ = c.args.buckets.bucket * wide t + c.args.place in
      let below = slice_get_within (windows_of t) n here.window here.item in
      rw (c.windows_per_bucket-each.ensures.value, c.entries.ensures.value)
      (omega (arith, below, c.entries.ensures.table.size))

  small : c.args.buckets.bucket * c.windows_per_bucket-each.result + c.args.place < 2 ^ 32
  small = omega (
    arith,
    inside,
    ap length c.entries.ensures.value,
    c.entries.ensures.table.size,
    c.entries.ensures.table.begun.shape.few_windows,
  )

pub overflow_mul-channel : goal.overflow_mul-channel
overflow_mul-channel c = omega (arith, small (goal.at.overflow_mul-channel c).After-entries)

pub overflow_add-channel : goal.overflow_add-channel
overflow_add-channel c = omega (arith, small (goal.at.overflow_add-channel c).After-entries)

pub offset_bounds-entries-buckets : goal.offset_bounds-entries-buckets
offset_bounds-entries-buckets c = omega (arith, small (goal.at.offset_bounds-entries-buckets c).After-entries)

pub bounds-entries-buckets : goal.bounds-entries-buckets
bounds-entries-buckets c = inside (goal.at.bounds-entries-buckets c).After-entries

pub bucket_at-next-requires : goal.bucket_at-next-requires
bucket_at-next-requires c =
    omega (
      arith,
      (here (goal.at.bucket_at-next-requires c).After-entries).next_few,
      c.entries.ensures.table.begun.shape.few_windows,
      c.entries.ensures.table.size,
    )

pub channels_of-requires : goal.channels_of-requires
channels_of-requires c =
    let t = c.args.self.now.table.now in
    subst (λ r. r * wide t + wide t ≤ length t.entries) (sym c.bucket_at-next.ensures)
    (here (goal.at.channels_of-requires c).After-entries).next_within

pub has_close_outside-requires : goal.has_close_outside-requires
has_close_outside-requires c =
    let t = c.args.self.now.table.now in
    let at' = here (goal.at.has_close_outside-requires c).After-entries in
    let start : ℕ = c.bucket_at-next.result * wide t in
    let next_in = subst (λ r. r * wide t + wide t ≤ length t.entries) (sym c.bucket_at-next.ensures) at'.next_within in
    let long = length-take-le (wide t) (drop start t.entries) (omega (arith, length-drop start t.entries)) in
    omega (arith, c.gap_at-gap.ensures, at'.gap_inside, long, ap length c.channels_of.ensures)

pub returns-then-not-may_hold : goal.returns-then-not-may_hold
returns-then-not-may_hold c =
    let t = c.args.self.now.table.now in
    let s = (goal.at.returns-then-not-may_hold c).After-entries in
    let at' = here s in
    let n : ℕ = c.args.buckets.bucket * wide t + c.args.place in
    let none = OnFalse_at c.if-not-may_hold.true
    (c.may_hold.ensures t.entries (wide t) c.args.self.now.distance
    (rw c.deref.ensures.value c.args.self.now.cover)) in
    let lacks : NoneClose t.entries (wide t) c.args.self.now.distance (second_bucket c.args.buckets c.args.place)
    (get_or t.entries n 0) =
    subst (λ r. NoneClose t.entries (wide t) c.args.self.now.distance r (get_or t.entries n 0)) c.bucket_at-next.ensures
    (subst (λ v. NoneClose t.entries (wide t) c.args.self.now.distance c.bucket_at-next.result v)
    (channel_is s) none) in
    free_at t c.args.buckets c.args.place c.args.self.now.distance at'
    (none_outside t.entries (second_gap c.args.buckets c.args.place) (wide t) c.args.self.now.distance (second_bucket c.args.buckets c.args.place) (get_or t.entries n 0) lacks at'.next_within)

pub returns : goal.returns
returns c =
    let t = c.args.self.now.table.now in
    let s = (goal.at.returns c).After-entries in
    let n : ℕ = c.args.buckets.bucket * wide t + c.args.place in
    let list_is = c.channels_of.ensures ∙ (λ q. take (wide t) (drop (c.bucket_at-next.ensures q * wide t) t.entries)) in
    OnFalse_from c.has_close_outside.result
    (AreFree t (BeginsBadTuple t (record { near = c.args.self.now.distance; far = 0 })) n (n + 1)) (λ no.
    free_at t c.args.buckets c.args.place c.args.self.now.distance (here s)
    (λ has. false≢true (sym no ∙ c.has_close_outside.ensures.1
    (subst (λ l. HasCloseOutside l c.gap_at-gap.result c.args.self.now.distance (get_or c.entries.result.now (c.args.buckets.bucket * c.windows_per_bucket-each.result + c.args.place) 0)) (sym list_is)
    (subst (λ g. HasCloseOutside (take (wide t) (drop (second_bucket c.args.buckets c.args.place * wide t) t.entries)) g c.args.self.now.distance (get_or c.entries.result.now (c.args.buckets.bucket * c.windows_per_bucket-each.result + c.args.place) 0)) (sym c.gap_at-gap.ensures)
    (subst (λ v. HasCloseOutside (take (wide t) (drop (second_bucket c.args.buckets c.args.place * wide t) t.entries)) (second_gap c.args.buckets c.args.place) c.args.self.now.distance v) (sym (channel_is s)) has))))))
