-- The number of windows as a product.
use Rattle.std.specs.Prelude.{ℕ, zero, suc, ◌-◌, ◌*◌}

-- m (m-1) .. (m-k+1), a product of k numbers
abbrev pub falling : ℕ → ℕ → ℕ
falling m zero = 1
falling m (suc k) = falling m k * (m - k)
