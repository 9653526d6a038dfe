use Rattle.std.proofs.Common.{◌≡◌, ◌≤◌, length, ap, refl, rules}
use Rattle.reports.specs.Findings.{of_place}
use Rattle.reports.specs.Report.{told}
use Rattle.reports.proofs.rings.place_answer.Goals as goal

-- The ring has no such place.
pub returns-then-place-len : goal.returns-then-place-len
returns-then-place-len c =
    let place = c.args.place in
    let beyond : length c.args.ring.places ≤ place = search rules in
    let count : c.len-then-place-len.result ≡ length c.args.ring.places = search rules in
    told (of_place place c.len-then-place-len.result) (beyond, ap (of_place place) count) refl
