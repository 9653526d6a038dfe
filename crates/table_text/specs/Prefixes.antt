-- The texts of the first identifiers of a prefix. No public contract cites this file.
use Rattle.std.specs.Prelude.{◌≡◌, ℕ, ◌*◌, ◌≤◌, List, [], length, take, slice_index}
use Rattle.win_index.specs.declared.limits.TheConstants.{MAX_WINDOW_LEN}
use Rattle.table_text.specs.TableText.{ids_then}

-- the buffer has the text of these identifiers, and at each number of the first ones is the end of their text
pub record HasTexts (bytes ends ids : List ℕ) : Type 0 where
  pub room : length ends ≡ MAX_WINDOW_LEN
  pub each : (i : ℕ) → i ≤ length ids → take (slice_index ends i) bytes ≡ ids_then (take i ids) []
  pub few : (i : ℕ) → i ≤ length ids → slice_index ends i ≤ 8 * i
  pub rises : (i j : ℕ) → i ≤ j → j ≤ length ids → slice_index ends i ≤ slice_index ends j
