-- The first fault of numbers that are no shape.
use Rattle.std.specs.Prelude.{ℕ}
use Rattle.win_index.specs.ShapeRange.{HasIds, HasFewWindows}
use Rattle.win_index.specs.declared.shape.ShapeFault.{ShapeFault}
use Rattle.win_index.specs.declared.shape.ShapeFault.TheVariants.{IdsOutOfRange, TooManyWindows}

-- the number of identifiers is checked first, then that of windows
abbrev pub IsFirstShapeFault : ℕ → ℕ → ShapeFault → Type 0
IsFirstShapeFault m t IdsOutOfRange = ¬ HasIds m t
IsFirstShapeFault m t TooManyWindows = HasIds m t × (¬ HasFewWindows m t)
