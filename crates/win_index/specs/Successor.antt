-- The next window, in the order of the list of windows.
use Rattle.std.specs.Prelude.{◌≡◌, ℕ, ◌+◌, Bool, List, length, slice_get, Some}
use Rattle.std.specs.Bool.{OnTrue, OnFalse}
use Rattle.win_index.specs.Windows.{windows, IsWindow}

-- next has the number after the window's
abbrev pub IsNext : ℕ → ℕ → List ℕ → List ℕ → Type 0
IsNext k m window next =
    (n : ℕ) → slice_get (windows k m) n ≡ Some window → slice_get (windows k m) (n + 1) ≡ Some next

-- no window has the number after this one's
abbrev pub IsLast : ℕ → ℕ → List ℕ → Type 0
IsLast k m window = (n : ℕ) → slice_get (windows k m) n ≡ Some window → n + 1 ≡ length (windows k m)

-- a window was replaced by the next one, or it is the last one and unchanged, as the answer of the call says
pub record IsReplaced (k m : ℕ) (is_replaced : Bool) (old new : List ℕ) : Type 0 where
  pub next : OnTrue is_replaced (IsNext k m old new)
  pub last : OnFalse is_replaced (IsLast k m old)
  pub same : OnFalse is_replaced (new ≡ old)
  pub window : IsWindow k m new
