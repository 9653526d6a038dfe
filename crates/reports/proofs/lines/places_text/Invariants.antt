use Rattle.std.proofs.Common.{◌≡◌, slice_index, string_bytes}
use Rattle.std.specs.List.{flat_map, range_with_len}
use Rattle.reports.specs.Bytes.{place_line}
use Rattle.reports.proofs.lines.places_text.Given as goal

-- the lines of the places so far are in the text
abbrev pub invariant-loop-place : goal.invariant-loop-place
invariant-loop-place l =
    string_bytes l.text
    ≡ flat_map
    (λ place. place_line place (slice_index l.ring.places place) (slice_index l.channels place))
    (range_with_len 0 l.place)
