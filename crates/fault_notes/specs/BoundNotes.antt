-- The bounds of the register that makes channels too large.
use Rattle.std.specs.Prelude.{ℕ, ◌+◌, Option, Some, None, List, [], ◌++◌, map, length, slice_index, codes}
use Rattle.std.specs.List.{range_with_len}
use Rattle.std.specs.Fmt.{decimal}
use Rattle.node_program.specs.Term.{ProgramTree}
use Rattle.node_program.specs.Bounds.{register_bounds}
use Rattle.lang_check.specs.Misplaced.{register_over_channels}
use Rattle.source_text.specs.Lists.{joined}

abbrev pub bounds_heading : ℕ → List ℕ
bounds_heading j = codes "nbhd: bounds of r" ++ (decimal j ++ codes " after `start` and each round: ")

-- the bounds of register j after `start` and after each round
abbrev pub bounds_in_time : ProgramTree → ℕ → ℕ → List ℕ
bounds_in_time p m j = map (λ r. slice_index (register_bounds p m r) j) (range_with_len 0 (length p.steps + 1))

-- the line with these bounds of register j
abbrev pub bounds_line : ℕ → List ℕ → List ℕ
bounds_line j bounds = bounds_heading j ++ (joined (codes " ") bounds ++ codes "\n")

-- the line of a register, if there is one
abbrev pub line_if_some : ProgramTree → ℕ → Option ℕ → List ℕ
line_if_some p m None = []
line_if_some p m (Some j) = bounds_line j (bounds_in_time p m j)

-- the line of the first register that `finish` reads whose last bound is not below the number of channels
abbrev pub growth_text : ProgramTree → ℕ → List ℕ
growth_text p m = line_if_some p m (register_over_channels p m)
