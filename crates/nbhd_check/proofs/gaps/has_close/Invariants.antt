use Rattle.std.proofs.Common.{◌<◌, ◌↔◌, ℕ, IsTrue, get_or}
use Rattle.std.specs.Int.{abs_diff}
use Rattle.nbhd_check.proofs.gaps.has_close.Given as goal

-- whether one of the channels so far is close
abbrev pub invariant-loop-other : goal.invariant-loop-other
invariant-loop-other l =
    IsTrue l.found ↔ ((place : ℕ) × (place < l.other-index) × (abs_diff l.channel (get_or l.list place 0) < l.distance))
