use Rattle.std.proofs.Common.{ℕ, List, ◌+◌, ◌*◌, ◌<◌, ◌≤◌, min, Some, slice_get, ◌≡◌, subst, sym, arith}
use Rattle.std.proofs.Math.Nat.{mul-le-mul_right}
use Rattle.channel_tables.specs.Tables.{ChannelTable, windows_of}
use Rattle.nbhd_check.specs.Buckets.{AreFree, BeginsBadTuple, BeginsFarTuple, wide}
use Rattle.nbhd_check.specs.Searches.{AreFreeIn, IsInBucket}
use Rattle.nbhd_check.proofs.Cells.{row_more}
use Rattle.nbhd_check.proofs.search.Search.free_in_pieces.Goals as goal

-- the windows of some buckets are those with the numbers of these buckets
free_buckets : (t : ChannelTable) (bad : List ℕ → Type 0) (low high least : ℕ)
    → AreFree t bad (low * wide t) (min least (high * wide t))
    → (bucket number : ℕ) (window : List ℕ) → low ≤ bucket → bucket < high → IsInBucket t bucket number → number < least
    → slice_get (windows_of t) number ≡ Some window → ¬ bad window
free_buckets t bad low high least free bucket number window from below is few item =
    let more : bucket + 1 ≤ high = omega arith in
    let start = mul-le-mul_right (wide t) from in
    let end = mul-le-mul_right (wide t) more in
    free number window (omega (arith, start, is.0)) (omega (arith, few, end, row_more bucket (wide t), is.1)) item

pub returns-in-Near : goal.returns-in-Near
returns-in-Near c =
    let s = c.in-Near.search.now in
    subst (λ own. AreFreeIn own c.first_in_buckets.result c.args.low c.args.high) (sym c.in-Near.is)
    (free_buckets s.table.now (BeginsBadTuple s.table.now (record { near = s.distance; far = 0 })) c.args.low c.args.high c.first_in_buckets.result c.first_in_buckets.ensures)

pub returns-in-FarMasks : goal.returns-in-FarMasks
returns-in-FarMasks c =
    let s = c.in-FarMasks.search.now in
    subst (λ own. AreFreeIn own c.first_in_buckets-in-FarMasks.result c.args.low c.args.high) (sym c.in-FarMasks.is)
    (free_buckets s.table.now (BeginsFarTuple s.table.now s.distance) c.args.low c.args.high c.first_in_buckets-in-FarMasks.result c.first_in_buckets-in-FarMasks.ensures)

pub returns-in-FarCounts : goal.returns-in-FarCounts
returns-in-FarCounts c =
    subst (λ own. AreFreeIn own c.free_in_families.result c.args.low c.args.high) (sym c.in-FarCounts.is)
    (λ piece number window low high is below item. c.free_in_families.ensures number window below item (piece, low, high, is))

pub returns-in-Patterns : goal.returns-in-Patterns
returns-in-Patterns c =
    subst (λ own. AreFreeIn own c.free_in_buckets.result c.args.low c.args.high) (sym c.in-Patterns.is)
    (λ piece number window low high is below item. c.free_in_buckets.ensures piece low high number window below item is)
