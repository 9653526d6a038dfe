-- Towers of powers of two.
use Rattle.std.specs.Prelude.{ℕ, zero, suc, ◌+◌, ◌-◌, ◌/◌, ◌^◌}

-- c, as an exponent of 2, k times over
abbrev pub tower : ℕ → ℕ → ℕ
tower zero c = c
tower (suc k) c = 2 ^ tower k c

-- how many channels below c are apart by near, each two of them: 0, near, twice near and so on
abbrev pub spread : ℕ → ℕ → ℕ
spread c near = (c + near - 1) / near
