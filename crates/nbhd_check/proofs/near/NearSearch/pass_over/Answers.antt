use Rattle.std.proofs.Common.{◌≡◌, ℕ, ◌+◌, ◌-◌, ◌*◌, ◌^◌, ◌<◌, ◌≤◌, length, get_or, take, drop, subst, ap, ◌∙◌}
use Rattle.std.proofs.Common.{arith, length-drop}
use Rattle.std.proofs.lemmas.List.{get_or-drop, get_or-take, length-take-le}
use Rattle.nbhd_check.specs.Masks.{NoneClose}
use Rattle.nbhd_check.specs.Buckets.{second_bucket, wide}
use Rattle.nbhd_check.proofs.BucketSteps.{small_bucket}
use Rattle.nbhd_check.proofs.SecondBuckets.{AtPlace, at_place, free_along, side}
use Rattle.nbhd_check.proofs.Suffixes.{bucket_within}
use Rattle.nbhd_check.proofs.near.NearSearch.pass_over.Goals.{After-side_end, After-count_apart}
use Rattle.nbhd_check.proofs.near.NearSearch.pass_over.Goals as goal

-- the window at the place, and the windows after it on its side of the gap
module _ (c : After-side_end) where
  here : AtPlace c.args.self.now.table.now c.args.buckets c.args.place
  here = at_place c.args.self.now.table.now c.args.buckets c.args.place
      c.windows_per_bucket-each.ensures.table.size c.requires.buckets c.requires.place

  side_is : (c.args.place < c.side_end.result) × (c.side_end.result ≤ wide c.args.self.now.table.now)
      × ((i : ℕ) → i < c.side_end.result - c.args.place
      → second_bucket c.args.buckets (c.args.place + i) ≡ second_bucket c.args.buckets c.args.place + i)
  side_is = side c.args.buckets c.args.place (wide c.args.self.now.table.now) c.side_end.result c.requires.place
      here.gap_inside (rw c.windows_per_bucket-each.ensures.value at c.side_end.ensures)

  -- the numbers of the windows and of their second buckets are small
  bucket_in : c.args.buckets.bucket * wide c.args.self.now.table.now + wide c.args.self.now.table.now ≤ length c.args.self.now.table.now.entries
  bucket_in = bucket_within c.args.self.now.table.now c.args.buckets.bucket c.requires.buckets.front c.windows_per_bucket-each.ensures.table.size c.requires.buckets.front_at

  bucket_small : c.args.buckets.bucket * c.windows_per_bucket-each.result + c.windows_per_bucket-each.result < 2 ^ 32
  bucket_small =
      let table = c.windows_per_bucket-each.ensures.table in
      small_bucket c.args.self.now.table.now c.args.buckets.bucket c.windows_per_bucket-each.result table c.windows_per_bucket-each.ensures.value
      (omega (arith, bucket_in, table.size))

  next_small : second_bucket c.args.buckets c.args.place < 2 ^ 32
  next_small = omega (arith, here.next_few, c.windows_per_bucket-each.ensures.table.begun.shape.few_windows, c.windows_per_bucket-each.ensures.table.size)

pub bucket_at-requires : goal.bucket_at-requires
bucket_at-requires c = omega (arith, next_small (goal.at.bucket_at-requires c).After-side_end)

pub overflow_mul-first : goal.overflow_mul-first
overflow_mul-first c = omega (arith, bucket_small (goal.at.overflow_mul-first c).After-side_end)

pub overflow_add-first : goal.overflow_add-first
overflow_add-first c = omega (arith, bucket_small (goal.at.overflow_add-first c).After-side_end, c.requires.place, c.windows_per_bucket-each.ensures.value)

pub overflow_add-channels : goal.overflow_add-channels
overflow_add-channels c =
    let d = (goal.at.overflow_add-channels c).After-side_end in
    omega (arith, bucket_small d, (side_is d).1, c.windows_per_bucket-each.ensures.value)

pub offset_bounds-entries-first : goal.offset_bounds-entries-first
offset_bounds-entries-first c =
    omega (
      arith,
      bucket_small (goal.at.offset_bounds-entries-first c).After-side_end,
      c.requires.place,
      c.windows_per_bucket-each.ensures.value,
    )

-- the channels of the windows on this side of the gap are among the entries
inside : (c : After-side_end)
    → c.args.buckets.bucket * c.windows_per_bucket-each.result + c.args.place + (c.side_end.result - c.args.place)
    ≤ length c.args.self.now.table.now.entries
inside c = rw c.windows_per_bucket-each.ensures.value (omega (arith, bucket_in c, (side_is c).0, (side_is c).1))

pub slice_bounds-channels-end : goal.slice_bounds-channels-end
slice_bounds-channels-end c =
    omega (arith, inside (goal.at.slice_bounds-channels-end c).After-side_end, ap length c.entries.ensures.value)

pub count_apart-requires : goal.count_apart-requires
count_apart-requires c =
    let d = (goal.at.count_apart-requires c).After-side_end in
    let first : ℕ = c.args.buckets.bucket * c.windows_per_bucket-each.result + c.args.place in
    let count : ℕ = c.side_end.result - c.args.place in
    let long = length-take-le (first + count - first) (drop first c.entries.result.now)
    (omega (arith, inside d, ap length c.entries.ensures.value, length-drop first c.entries.result.now)) in
    omega (arith, next_small d, c.bucket_at.ensures, long, bucket_small d, (side_is d).1, c.windows_per_bucket-each.ensures.value)

-- so many channels are looked at
few : (d : After-side_end) (c : After-count_apart)
    → c.args.buckets.bucket * c.windows_per_bucket-each.result + c.args.place + (c.side_end.result - c.args.place)
    ≤ length c.entries.result.now
    → c.count_apart.result ≤ c.side_end.result - c.args.place
few d c within =
    let first : ℕ = c.args.buckets.bucket * c.windows_per_bucket-each.result + c.args.place in
    let count : ℕ = c.side_end.result - c.args.place in
    omega (arith, c.count_apart.ensures.few, length-take-le (first + count - first) (drop first c.entries.result.now) (omega (arith, within, length-drop first c.entries.result.now)))

pub returns-clause-range : goal.returns-clause-range
returns-clause-range c =
    let d = (goal.at.returns-clause-range c).After-side_end in (
      omega arith,
      omega (
        arith,
        few d (goal.at.returns-clause-range c).After-count_apart (rw c.entries.ensures.value (inside d)),
        side_is d,
      ),
    )

pub returns-clause-free : goal.returns-clause-free
returns-clause-free c =
    let d = (goal.at.returns-clause-free c).After-side_end in
    let t = c.args.self.now.table.now in
    let distance = c.args.self.now.distance in
    let first : ℕ = c.args.buckets.bucket * c.windows_per_bucket-each.result + c.args.place in
    let count : ℕ = c.side_end.result - c.args.place in
    let short = few d (goal.at.returns-clause-free c).After-count_apart (rw c.entries.ensures.value (inside d)) in
    let read : (i : ℕ) → i < c.count_apart.result
    → get_or (take (first + count - first) (drop first c.entries.result.now)) i 0
    ≡ get_or t.entries (c.args.buckets.bucket * wide t + c.args.place + i) 0 =
    λ i lt. get_or-take (first + count - first) (drop first c.entries.result.now) i 0 (omega (arith, lt, short))
    ∙ get_or-drop first c.entries.result.now i 0
    ∙ (λ q. get_or (c.entries.ensures.value q) (c.args.buckets.bucket * c.windows_per_bucket-each.ensures.value q + c.args.place + i) 0) in
    free_along t c.args.buckets c.args.place c.count_apart.result count distance c.windows_per_bucket-each.ensures.table.size c.requires.buckets
    (omega (arith, side_is d)) short (side_is d).2
    (λ i lt. subst (λ r. NoneClose t.entries (wide t) distance (r + i) (get_or t.entries (c.args.buckets.bucket * wide t + c.args.place + i) 0)) c.bucket_at.ensures
    (subst (NoneClose t.entries (wide t) distance (c.bucket_at.result + i)) (read i lt)
    (c.count_apart.ensures.apart t.entries (wide t) distance i (rw c.deref.ensures.value c.args.self.now.cover) lt)))
