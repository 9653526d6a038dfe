use Rattle.std.proofs.Common.{◌≡◌, ℕ, ◌*◌, ◌/◌, ◌<◌, ◌≤◌, List, Some, slice_get, subst, sym, arith}
use Rattle.std.proofs.Math.Nat.{div-mul-le_self, lt-div-mul-add, div-lt_iff_lt-mul}
use Rattle.channel_tables.specs.Tables.{ChannelTable, windows_of}
use Rattle.nbhd_check.specs.declared.search.Search.{Search}
use Rattle.nbhd_check.specs.Buckets.{wide}
use Rattle.nbhd_check.specs.Searches.{searched, IsInBucket, IsInPiece}
use Rattle.nbhd_check.proofs.FarFree.{family_of}
use Rattle.nbhd_check.proofs.PatternSteps.{bucket_after}
use Rattle.nbhd_check.proofs.search.Search.pieces.Goals as goal

-- the bucket of a window with this number
in_buckets : (t : ChannelTable) (most buckets number : ℕ) → 1 ≤ wide t → most ≤ buckets * wide t → number < most
    → (bucket : ℕ) × (bucket < buckets) × IsInBucket t bucket number
in_buckets t most buckets number some all below =
    (number / wide t, (div-lt_iff_lt-mul some).1 (omega (arith, all, below)), (div-mul-le_self number (wide t), lt-div-mul-add {a = number} some))

-- the first windows are in so many pieces
abbrev All : Search → ℕ → ℕ → Type 0
All s most pieces =
    (number : ℕ) (window : List ℕ) → number < most → slice_get (windows_of (searched s)) number ≡ Some window
    → (piece : ℕ) × (piece < pieces) × IsInPiece s piece number window

pub returns-in-Near-clause-all : goal.returns-in-Near-clause-all
returns-in-Near-clause-all c =
    let buckets = c.buckets_of in
    subst (λ s. All s c.args.most buckets.result) (sym c.in-Near.is)
    (λ number window below item. in_buckets c.in-Near.search.now.table.now c.args.most buckets.result number buckets.ensures.some buckets.ensures.all below)

pub returns-in-FarMasks-clause-all : goal.returns-in-FarMasks-clause-all
returns-in-FarMasks-clause-all c =
    let buckets = c.buckets_of-in-FarMasks in
    subst (λ s. All s c.args.most buckets.result) (sym c.in-FarMasks.is)
    (λ number window below item. in_buckets c.in-FarMasks.search.now.table.now c.args.most buckets.result number buckets.ensures.some buckets.ensures.all below)

pub returns-in-FarCounts-clause-all : goal.returns-in-FarCounts-clause-all
returns-in-FarCounts-clause-all c =
    let own = c.in-FarCounts.search in
    let t = own.table.now in
    subst (λ s. All s c.args.most c.families.result) (sym c.in-FarCounts.is)
    (λ number window below item.
    let family = family_of t own.some.0 number window item in
    (family.0, rw c.families.ensures.value family.1, family.2))

pub returns-in-Patterns-clause-all : goal.returns-in-Patterns-clause-all
returns-in-Patterns-clause-all c =
    let own = c.in-Patterns.search.now in
    subst (λ s. All s c.args.most c.buckets.result) (sym c.in-Patterns.is)
    (λ number window below item. bucket_after own.table.now c.buckets.result number window own.table_is c.buckets.ensures.all item)
