-- A list of numbers in a text.
use Rattle.std.specs.Prelude.{ℕ, ◌++◌, List, [], ◌∷◌}
use Rattle.std.specs.List.{flat_map}
use Rattle.std.specs.Fmt.{decimal}

-- numbers in decimal, separated by `between`
abbrev pub joined : List ℕ → List ℕ → List ℕ
joined between [] = []
joined between (n ∷ ns) = decimal n ++ flat_map (λ m. between ++ decimal m) ns
