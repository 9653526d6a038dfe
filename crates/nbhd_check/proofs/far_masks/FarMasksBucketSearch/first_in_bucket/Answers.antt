use Rattle.std.proofs.Common.{◌≡◌, ℕ, List, ◌+◌, ◌-◌, ◌*◌, ◌≤◌, take, drop, subst, sym, ◌∙◌, arith}
use Rattle.win_index.specs.Windows.{IsWindow}
use Rattle.win_index.proofs.Windows.{windows_all}
use Rattle.channel_tables.specs.Tables.{ChannelTable}
use Rattle.nbhd_check.specs.Buckets.{wide}
use Rattle.nbhd_check.proofs.Suffixes.{front_two}
use Rattle.nbhd_check.proofs.ThirdFamilies.{at_family}
use Rattle.nbhd_check.proofs.far_masks.FarMasksBucketSearch.first_in_bucket.Goals as goal

-- a window of the table, at the level that is computed
above : (t : ChannelTable) (rounds ids : ℕ) (window : List ℕ) → rounds ≡ t.rounds → ids ≡ t.ids → 1 ≤ t.rounds
    → IsWindow (2 * t.rounds + 1) t.ids window → IsWindow (2 * (rounds - 1) + 3) ids window
above t rounds ids window rounds_is ids_is some is =
    let len : 2 * t.rounds + 1 ≡ 2 * (rounds - 1) + 3 = omega arith in
    subst (λ m. IsWindow (2 * (rounds - 1) + 3) m window) (sym ids_is) (subst (λ k. IsWindow k t.ids window) len is)

pub slice_bounds-bucket_start-end : goal.slice_bounds-bucket_start-end
slice_bounds-bucket_start-end c =
    let t = c.args.self.now.table.now in
    let is = windows_all (2 * t.rounds + 1) t.ids _ c.args.window.now c.requires in
    let size = is.size in
    omega (arith, size, c.rounds-below.ensures, c.shape-shape.ensures.rounds, c.args.self.now.some)

pub bucket_start-first-requires-clause-front : goal.bucket_start-first-requires-clause-front
bucket_start-first-requires-clause-front c =
    let t = c.args.self.now.table.now in
    let is = windows_all (2 * t.rounds + 1) t.ids _ c.args.window.now c.requires in
    let len : 2 * c.rounds-below.result - 2 ≡ 2 * (c.rounds-below.result - 1) + 2 - 2 = omega arith in
    subst (λ n. IsWindow (2 * (c.rounds-below.result - 1)) c.shape-shape.result.ids (take n (drop 2 c.args.window.now))) len
    (front_two t c.rounds-below.result c.shape-shape.result.ids c.args.window.now (c.rounds-below.ensures
    ∙ c.shape-shape.ensures.rounds) c.shape-shape.ensures.ids c.args.self.now.some is)

pub bucket_places-places-requires-clause-window : goal.bucket_places-places-requires-clause-window
bucket_places-places-requires-clause-window c =
    let t = c.args.self.now.table.now in
    above t c.rounds-below.result c.shape-shape.result.ids c.args.window.now (c.rounds-below.ensures
    ∙ c.shape-shape.ensures.rounds) c.shape-shape.ensures.ids c.args.self.now.some
    (windows_all (2 * t.rounds + 1) t.ids _ c.args.window.now c.requires)

pub place_in_bucket-requires-clause-window : goal.place_in_bucket-requires-clause-window
place_in_bucket-requires-clause-window c =
    let t = c.args.self.now.table.now in
    above t c.rounds-below.result c.shape-shape.result.ids c.args.window.now (c.rounds-below.ensures
    ∙ c.shape-shape.ensures.rounds) c.shape-shape.ensures.ids c.args.self.now.some
    (windows_all (2 * t.rounds + 1) t.ids _ c.args.window.now c.requires)

pub first_from-requires : goal.first_from-requires
first_from-requires c =
    let t = c.args.self.now.table.now in (
      c.args.window.now,
      at_family t (c.args.bucket * wide t) c.args.window.now c.rounds-below.result c.shape-shape.result.ids c.bucket_start-first.result c.bucket_places-places.result
          c.place_in_bucket.result (c.rounds-below.ensures ∙ c.shape-shape.ensures.rounds) c.shape-shape.ensures.ids c.args.self.now.some c.requires
          (windows_all (2 * t.rounds + 1) t.ids _ c.args.window.now c.requires) c.bucket_start-first.ensures
          c.bucket_places-places.ensures
          c.place_in_bucket.ensures.value,
    )
