use Rattle.std.proofs.Common.{◌≡◌, ℕ, List, ◌+◌, ◌-◌, ◌*◌, ◌^◌, ◌<◌, ◌≤◌, length, drop, subst, arith, ⊎_elim}
use Rattle.std.proofs.lemmas.Bool.{cases_lt}
use Rattle.channel_tables.specs.Tables.{windows_of}
use Rattle.nbhd_check.specs.Counts.{shared_len}
use Rattle.nbhd_check.specs.FarSearch.{IsAtFamily}
use Rattle.nbhd_check.specs.Buckets.{AreFree, BeginsFarTuple, wide}
use Rattle.nbhd_check.proofs.BucketSteps.{bucket_end, small_bucket}
use Rattle.nbhd_check.proofs.ThirdFamilies.{family_at, family_few, free_in_front, in_series, next_family, place_inside}
use Rattle.nbhd_check.proofs.far_masks.FarMasks.first_from.Goals.{After-windows_per_bucket-each, In-loop-number}
use Rattle.nbhd_check.proofs.far_masks.FarMasks.first_from.Goals.{After-free_in_series-free}
use Rattle.nbhd_check.proofs.far_masks.FarMasks.first_from.Goals as goal

-- the bucket's numbers are small
module _ (c : After-windows_per_bucket-each) where
  whole : c.args.bucket * wide c.args.self.now.table.now + wide c.args.self.now.table.now ≤ length (windows_of c.args.self.now.table.now)
  whole = bucket_end c.args.self.now.table.now c.args.bucket c.requires.0 c.requires.1.item

  bucket_small : c.args.bucket * c.windows_per_bucket-each.result + c.windows_per_bucket-each.result < 2 ^ 32
  bucket_small =
      small_bucket c.args.self.now.table.now c.args.bucket c.windows_per_bucket-each.result
      c.windows_per_bucket-each.ensures.table
      c.windows_per_bucket-each.ensures.value whole

  end_is : c.args.bucket * c.windows_per_bucket-each.result + c.windows_per_bucket-each.result
      ≡ c.args.bucket * wide c.args.self.now.table.now + wide c.args.self.now.table.now
  end_is = λ q. c.args.bucket * c.windows_per_bucket-each.ensures.value q + c.windows_per_bucket-each.ensures.value q

pub overflow_mul-end : goal.overflow_mul-end
overflow_mul-end c = omega (arith, bucket_small (goal.at.overflow_mul-end c).After-windows_per_bucket-each)

pub overflow_add-end : goal.overflow_add-end
overflow_add-end c = omega (arith, bucket_small (goal.at.overflow_add-end c).After-windows_per_bucket-each)

-- the next window of the bucket, and the family of its third windows
module _ (c : In-loop-number) where
  own : (window : List ℕ) × IsAtFamily c.args.self.now.table.now c.loop-number.number window c.args.first c.args.places c.loop-number.place
  own = c.loop-number.invariant.0 (rw (← c.windows_per_bucket-each.ensures.value) c.loop-number-test.true)

  family_small : c.args.first + c.loop-number.place < 2 ^ 32
  family_small =
      let t = c.args.self.now.table.now in
      let table = c.windows_per_bucket-each.ensures.table in
      let few = family_few t (c.args.first + c.loop-number.place) (drop 2 own.0) c.args.self.now.some
      table.begun.shape.ids.enough table.size
      (family_at t c.loop-number.number own.0 c.args.first c.args.places c.loop-number.place c.args.self.now.some own.1) in
      omega (arith, few, table.size, table.begun.shape.few_windows)

pub series-count-requires-clause-place : goal.series-count-requires-clause-place
series-count-requires-clause-place c =
    place_inside c.args.self.now.table.now c.loop-number.number
    (own c).0 c.args.first c.args.places c.loop-number.place c.args.self.now.some (own c).1

pub overflow_add-first : goal.overflow_add-first
overflow_add-first c = omega (arith, family_small (goal.at.overflow_add-first c).In-loop-number)

pub free_in_series-free-requires-clause-windows : goal.free_in_series-free-requires-clause-windows
free_in_series-free-requires-clause-windows c =
    let d = (goal.at.free_in_series-free-requires-clause-windows c).After-windows_per_bucket-each in
    omega (arith, whole d, end_is d, c.series-count.ensures.few, c.loop-number-test.true, c.windows_per_bucket-each.ensures.table.size)

pub free_in_series-free-requires-clause-family : goal.free_in_series-free-requires-clause-family
free_in_series-free-requires-clause-family c =
    family_small (goal.at.free_in_series-free-requires-clause-family c).In-loop-number

pub overflow_add-result : goal.overflow_add-result
overflow_add-result c =
    omega (arith, bucket_small (goal.at.overflow_add-result c).After-windows_per_bucket-each, c.if-free-count.true, c.series-count.ensures.few, c.loop-number-test.true)

pub overflow_add-number : goal.overflow_add-number
overflow_add-number c =
    omega (arith, bucket_small (goal.at.overflow_add-number c).After-windows_per_bucket-each, c.series-count.ensures.few, c.loop-number-test.true)

-- none of the windows that were passed over begins such a tuple
free_of : (d : In-loop-number) (c : After-free_in_series-free)
    → (windows : IsAtFamily c.args.self.now.table.now c.loop-number.number (own d).0 c.args.first c.args.places
    c.loop-number.place)
    → AreFree c.args.self.now.table.now (BeginsFarTuple c.args.self.now.table.now c.args.self.now.distance)
    (c.args.bucket * wide c.args.self.now.table.now) (c.loop-number.number + c.free_in_series-free.result)
free_of d c here n w low below item =
    let t = c.args.self.now.table.now in
    ⊎_elim
    (λ (before : n < c.loop-number.number). c.loop-number.invariant.1 n w low before item)
    (λ (from : c.loop-number.number ≤ n).
    free_in_front t c.args.self.now.distance c.loop-number.number (own d).0 c.args.first c.args.places c.loop-number.place c.series-count.result
    c.free_in_series-free.result c.args.self.now.some here
    (c.series-count.ensures.series (shared_len t) t.ids (own d).0 (omega arith) here.at_place)
    c.free_in_series-free.ensures.few c.free_in_series-free.ensures.free n w from below item)
    (cases_lt n c.loop-number.number)

pub returns-then-free-count : goal.returns-then-free-count
returns-then-free-count c =
    let d = (goal.at.returns-then-free-count c).In-loop-number in
    free_of d (goal.at.returns-then-free-count c).After-free_in_series-free (own d).1

pub loop-number-preserved : goal.loop-number-preserved
loop-number-preserved c =
    let t = c.args.self.now.table.now in
    let d = (goal.at.loop-number-preserved c).In-loop-number in
    let e = (goal.at.loop-number-preserved c).After-windows_per_bucket-each in
    let s = (goal.at.loop-number-preserved c).After-free_in_series-free in
    let here = own d in
    let some = c.args.self.now.some in
    let count : ℕ = c.series-count.result in
    let positive = c.series-count.ensures.some in
    let within : c.loop-number.number + count ≤ c.args.bucket * wide t + wide t =
    omega (arith, end_is e, c.series-count.ensures.few, c.loop-number-test.true) in
    let all : c.free_in_series-free.result ≡ count =
    omega (arith, c.if-free-count.false, c.free_in_series-free.ensures.few) in
    let last = in_series t c.loop-number.number here.0 c.args.first c.args.places c.loop-number.place some here.1 count (count - 1)
    (c.series-count.ensures.series (shared_len t) t.ids here.0 (omega arith) here.1.at_place)
    (omega (arith, positive)) in
    let place : c.loop-number.place + (count - 1) ≡ c.loop-number.place + count - 1 = omega (arith, positive) in
    let at = subst (IsAtFamily t (c.loop-number.number + (count - 1)) last.0 c.args.first c.args.places) place last.1 in
    let next : c.loop-number.number + (count - 1) + 1 ≡ c.loop-number.number + count = omega (arith, positive) in (
      λ lt.
          let later = next_family t (c.loop-number.number + (count - 1)) last.0 c.args.first c.args.places
          (c.loop-number.place + count - 1) some at c.args.bucket
          c.unwrap_or-place.result c.after.result c.unwrap_or-place.ensures (omega (arith, c.loop-number.invariant.2))
          (omega (arith, lt, positive)) (whole e)
          c.after.ensures.next c.after.ensures.last in
          (later.0, subst (λ n. IsAtFamily t n later.0 c.args.first c.args.places c.unwrap_or-place.result) next later.1),
      subst (λ f. AreFree t (BeginsFarTuple t c.args.self.now.distance) (c.args.bucket * wide t) (c.loop-number.number + f)) all (free_of d s here.1),
      omega (arith, c.loop-number.invariant.2),
      within,
    )
