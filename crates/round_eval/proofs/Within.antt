-- Bounds along a shrinking line.
use Rattle.std.proofs.Common.{ℕ, zero, suc, ◌+◌, ◌*◌, ◌<◌, List, All, length, get_or, subst, sym, arith}
use Rattle.node_program.specs.Term.{ProgramTree}
use Rattle.node_program.specs.Bounds.{register_bounds, IsWithin}
use Rattle.lang_check.specs.BoundLaws.{StartIsWithin, NextIsWithin}
use Rattle.round_eval.specs.Line.{item, line, middle_state}
use Rattle.round_eval.specs.WindowLaws.{WindowsAreWithin}
use Rattle.round_eval.proofs.Lines.{line_start, line_next}

module _ (start_is_within : StartIsWithin) (next_is_within : NextIsWithin) where
  -- each state of the line is within the bounds of as many rounds
  item_within :
      (p : ProgramTree) (m : ℕ) (w : List ℕ) (k j : ℕ) → All (λ x. x < m) w → j + 2 * k < length w
      → IsWithin (item (line p w k) j) (register_bounds p m k)
  item_within p m w zero j below lt =
      let inside : j < length w = omega arith in
      subst (λ s. IsWithin s (register_bounds p m 0)) (sym (line_start p w j inside))
      (start_is_within p m (get_or w j 0) (below j 0 inside))
  item_within p m w (suc k) j below lt =
      subst (λ s. IsWithin s (register_bounds p m (suc k))) (sym (line_next p w k j (omega arith)))
      (next_is_within p m k (item (line p w k) j) (item (line p w k) (j + 1)) (item (line p w k) (j + 2))
      (item_within p m w k j below (omega arith)) (item_within p m w k (j + 1) below (omega arith))
      (item_within p m w k (j + 2) below (omega arith)))

  -- and so is the one that remains
  pub middle_within : WindowsAreWithin
  unfolding middle_state
  middle_within p m r w window =
      let size = window.size in
      item_within p m w r 0 window.below (omega arith)
