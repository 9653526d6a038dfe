-- The values of an option among words.
use Rattle.std.specs.Prelude.{ℕ, Option, Some, None, List, length, take, drop, bytes_eq, if◌then◌else◌}

-- the value of an option that a word is or has, by the word before it: after the name the word, or what follows the
-- name and `=`, which is the beginning, in it
abbrev pub option_value : List ℕ → List ℕ → List ℕ → List ℕ → Option (List ℕ)
option_value name beginning last word =
    if bytes_eq last name then Some word
    else if bytes_eq (take (length beginning) word) beginning then Some (drop (length beginning) word)
    else None
