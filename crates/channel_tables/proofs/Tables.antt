-- What other crates cite of tables: tables that are begun, the channels of windows, channels that are close, and
-- tuples. Of the files here they import this one alone.
use Rattle.std.proofs.Common.{◌≡◌, ℕ, ◌+◌, ◌*◌, ◌<◌, ◌≤◌, ◌++◌, Bool, true, false, Option, List, length, All, slice_get}
use Rattle.std.proofs.Common.{slice_index, Some, IsSome, arith, refl}
use Rattle.std.proofs.lemmas.Bool.{OnTrue_at, OnFalse_at}
use Rattle.win_index.specs.Arcs.{window_around}
use Rattle.win_index.specs.Ring.{IsRing}
use Rattle.win_index.specs.Buckets.{IsReplacedByBucket}
use Rattle.win_index.specs.Successor.{IsReplaced}
use Rattle.win_index.specs.Windows.{IsWindow}
use Rattle.win_index.proofs.Windows.{length-windows, falling-add}
use Rattle.channel_tables.specs.Apart.{extra, bucket_len, tuples, AreClose, AreApart, IsApartEverywhere, NoneIsBad}
use Rattle.channel_tables.specs.Tables.{ChannelTable, IsBegun, channel_of, windows_of}
use Rattle.channel_tables.specs.declared.separation.Separation.{Separation}
use Rattle.channel_tables.proofs.BegunTables
use Rattle.channel_tables.proofs.Close
use Rattle.channel_tables.proofs.Witnesses
-- the first channel and the second one, or the first one and the third one, are too close
pub use Rattle.channel_tables.proofs.Close.{AreTooClose}

-- ---- tables

-- a begun table with more entries is begun
pub begun_with :
    (t : ChannelTable) (channels : List ℕ) → IsBegun t → length t.entries + length channels ≤ length (windows_of t)
    → All (λ channel. channel < t.channels) channels → IsBegun (record t { entries = t.entries ++ channels })
begun_with = BegunTables.begun_with

-- the channel of the window with a number is the entry with that number
pub channel_at :
    (t : ChannelTable) (n : ℕ) (window : List ℕ) → slice_get (windows_of t) n ≡ Some window
    → channel_of t window ≡ Some (slice_index t.entries n)
channel_at = Witnesses.channel_at

-- each window of a ring has a channel
pub channel_around : (t : ChannelTable) (ring : List ℕ) (place : ℕ) → IsRing t.ids t.rounds ring
    → IsSome (channel_of t (window_around ring t.rounds place))
channel_around = Witnesses.channel_around

-- the window after one that is not the last has the next number
pub next_item :
    (t : ChannelTable) (number : ℕ) (replaced : Bool) (old new : List ℕ)
    → IsReplaced (2 * t.rounds + 1) t.ids replaced old new
    → slice_get (windows_of t) number ≡ Some old → number + 1 < length (windows_of t)
    → slice_get (windows_of t) (number + 1) ≡ Some new
next_item t number true old new is item lt = OnTrue_at refl is.next number item
next_item t number false old new is item lt = absurd (omega (arith, OnFalse_at refl is.last number item))

-- a window of a table is a window for the numbers of its shape
pub window_of_shape : (t : ChannelTable) (rounds ids : ℕ) (window : List ℕ) → rounds ≡ t.rounds → ids ≡ t.ids
    → IsWindow (2 * t.rounds + 1) t.ids window → IsWindow (2 * rounds + 1) ids window
window_of_shape t rounds ids window rounds_is ids_is is = rw (rounds_is, ids_is) is

-- a step to the next bucket for the numbers of the shape is one for the table
pub step_of_bucket : (t : ChannelTable) (rounds ids : ℕ) (replaced : Bool) (old new : List ℕ)
    → rounds ≡ t.rounds → ids ≡ t.ids
    → IsReplacedByBucket (2 * rounds + 1) ids replaced old new
    → IsReplacedByBucket (2 * t.rounds + 1) t.ids replaced old new
step_of_bucket t rounds ids replaced old new rounds_is ids_is is = rw (rounds_is, ids_is) at is

-- ---- channels that are close

-- no channels are closer than 0
pub some_distance : (distance : ℕ) (a b : Option ℕ) → AreClose distance a b → 0 < distance
some_distance = Close.some_distance

-- channels that are closer than a distance are closer than a greater one
pub closer : (less distance : ℕ) (a b : Option ℕ) → less ≤ distance → AreClose less a b → AreClose distance a b
closer = Close.closer

-- equal channels are equally close
pub close_along : (distance : ℕ) {a b c d : Option ℕ} → a ≡ c → b ≡ d → AreClose distance a b → AreClose distance c d
close_along distance first second close = Close.close_along distance first second close

-- far is not 0 if channels are closer than far, so a tuple has a third window
pub two_of_far : (s : Separation) (a b : Option ℕ) → AreClose s.far a b → 2 ≤ extra s
two_of_far = Close.two_of_far

-- channels that are apart are not too close
pub apart_not_too_close : (s : Separation) (a b c : Option ℕ) → AreApart s.near a b × AreApart s.far a c
    → ¬ AreTooClose s a b c
apart_not_too_close = Close.apart_not_too_close

-- channels of three windows are apart if they are not too close
pub apart_of_not_too_close :
    (s : Separation) (a b c : Option ℕ) → IsSome a → IsSome b → IsSome c → ¬ AreTooClose s a b c
    → AreApart s.near a b × AreApart s.far a c
apart_of_not_too_close = Close.apart_of_not_too_close

-- ---- tuples

-- each window is the first of as many tuples
pub all_buckets : (t : ChannelTable) (s : Separation) → length (tuples t s) ≡ length (windows_of t) * bucket_len t s
all_buckets t s =
    rw (length-windows (2 * t.rounds + 1 + extra s) t.ids, length-windows (2 * t.rounds + 1) t.ids)
    (falling-add t.ids (2 * t.rounds + 1) (extra s))

-- a table is apart everywhere if none of its tuples is bad
pub none_is_apart : (t : ChannelTable) (s : Separation) (count : ℕ) → count ≡ length (tuples t s)
    → NoneIsBad t s 0 count → IsApartEverywhere t s
none_is_apart = Witnesses.none_is_apart
