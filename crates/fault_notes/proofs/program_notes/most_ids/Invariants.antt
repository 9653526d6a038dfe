use Rattle.std.proofs.Common.{ℕ, ◌+◌, ◌<◌}
use Rattle.win_index.specs.declared.limits.TheConstants.{MAX_IDS}
use Rattle.win_index.specs.ShapeRange.{IsShape}
use Rattle.fault_notes.proofs.program_notes.most_ids.Given as goal

abbrev pub invariant-fewer : goal.invariant-fewer
invariant-fewer l = (m : ℕ) → MAX_IDS < m + l.fewer → ¬ IsShape m l.rounds
