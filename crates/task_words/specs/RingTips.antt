-- The ring text among words, and the tip on a text that is no ring text.
use Rattle.std.specs.Prelude.{◌≡◌, ℕ, ◌+◌, ◌<◌, ◌++◌, Option, Some, None, List, [], ◌∷◌, slice_get, codes}
use Rattle.std.specs.Option.{option_or}
use Rattle.std.specs.Fmt.{decimal}
use Rattle.source_text.specs.Shown.{escaped_bytes}
use Rattle.task_words.specs.Decimal.{IsNumber}
use Rattle.task_words.specs.OptionWords.{option_value}
use Rattle.task_words.specs.RingText.{parts_of}

-- the part with this index is not a number, and those before it are
pub record IsFirstBad (parts : List (List ℕ)) (index : ℕ) (part : List ℕ) : Type 0 where
  pub item : slice_get parts index ≡ Some part
  pub bad : ¬ IsNumber part
  pub before : (k : ℕ) (other : List ℕ) → k < index → slice_get parts k ≡ Some other → IsNumber other

-- the tip on a part that is not a number, each of whose bytes is seen
abbrev pub part_tip : ℕ → List ℕ → List ℕ
part_tip number part = codes "nbhd: part " ++ (decimal number ++ (codes " of the ring text, `" ++ (escaped_bytes part
    ++ codes "`, is not a number from 0 to 4294967295; a ring is numbers with single commas, as 5,1,3,7")))

-- the tip names the first part that is not a number; parts are counted from 1
pub record IsRingTip (text tip : List ℕ) : Type 0 where
  pub index : ℕ
  pub part : List ℕ
  pub first : IsFirstBad (parts_of text) index part
  pub is : tip ≡ part_tip (index + 1) part

-- the value of `--ring` that a word is or has, by the word before it
abbrev pub ring_value : List ℕ → List ℕ → Option (List ℕ)
ring_value last word = option_value (codes "--ring") (codes "--ring=") last word

-- the first value of `--ring` among words; `last` is the word before them
abbrev pub ring_after : List ℕ → List (List ℕ) → Option (List ℕ)
ring_after last [] = None
ring_after last (word ∷ words) = option_or (ring_value last word) (ring_after word words)

-- the first value of `--ring` among words
abbrev pub ring_word : List (List ℕ) → Option (List ℕ)
ring_word words = ring_after [] words
