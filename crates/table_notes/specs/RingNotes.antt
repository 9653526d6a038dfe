-- The notes on a list that is not a ring, on a place that a ring has not, and on a number of segments.
use Rattle.std.specs.Prelude.{ℕ, ◌+◌, ◌-◌, ◌*◌, ◌==◌, ◌&&◌, nat_lt, ◌++◌, List, length, slice_index}
use Rattle.std.specs.Prelude.{codes, if◌then◌else◌}
use Rattle.std.specs.Fmt.{decimal}
use Rattle.node_program.specs.declared.limits.TheConstants.{MAX_THREADS}
use Rattle.win_index.specs.declared.ring.RingFault.{RingFault}
use Rattle.win_index.specs.declared.ring.RingFault.TheVariants as ring

-- the end of the note: advice if the last place repeats the first one
abbrev pub note_end : ℕ → ℕ → ℕ → List ℕ
note_end count first second =
    if (first == 0) && (second + 1 == count) then codes "; a ring closes by itself\n" else codes "\n"

-- the note on the fault of a list for m identifiers and t rounds
abbrev pub ring_note : ℕ → ℕ → List ℕ → RingFault → List ℕ
ring_note m t x ring.TooShort =
    codes "nbhd: a ring has at least "
    ++ (decimal (2 * t + 2) ++ (codes " places here, and this one has " ++ (decimal (length x) ++ codes "\n")))
ring_note m t x ring.TooLong =
    codes "nbhd: a ring has at most as many places as there are identifiers, "
    ++ (decimal m ++ (codes ", and this one has " ++ (decimal (length x) ++ codes "\n")))
ring_note m t x (ring.IdTooLarge place) =
    codes "nbhd: place " ++ (decimal place
    ++ (codes " has the identifier "
    ++ (decimal (slice_index x place)
    ++ (codes "; of " ++ (decimal m
    ++ (codes " identifiers the largest is " ++ (decimal (m - 1) ++ codes "\n")))))))
ring_note m t x (ring.Repeated first second) =
    codes "nbhd: places " ++ (decimal first
    ++ (codes " and " ++ (decimal second
    ++ (codes " have the same identifier "
    ++ (decimal (slice_index x second) ++ note_end (length x) first second)))))

-- the note on a place that a ring of so many places has not
abbrev pub place_note : ℕ → ℕ → List ℕ
place_note place places =
    codes "nbhd: the ring has no place "
    ++ (decimal place ++ (codes "; its places are 0 to " ++ (decimal (places - 1) ++ codes "\n")))

-- the note on a number of segments in which a ring of so many places can't be run: more than the places, or else none
-- or too many for any ring
abbrev pub segments_note : ℕ → ℕ → List ℕ
segments_note segments places = if nat_lt places segments
    then codes "nbhd: " ++ (decimal segments
    ++ (codes " segments are more than the " ++ (decimal places ++ codes " places of the ring\n")))
    else codes "nbhd: a ring is run in 1 to "
    ++ (decimal MAX_THREADS ++ (codes " segments, not " ++ (decimal segments ++ codes "\n")))
