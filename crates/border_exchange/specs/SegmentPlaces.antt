-- The places of a segment.
use Rattle.std.specs.Prelude.{ℕ, ◌*◌, ◌/◌}

-- the first place of segment s, of n places that are cut into g segments; those of segment s end where those of segment
-- s+1 begin
unfoldable pub first_place : ℕ → ℕ → ℕ → ℕ
first_place n g s = s * n / g
