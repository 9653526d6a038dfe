-- The blocks that a block is made from.
use Rattle.std.specs.Prelude.{◌≡◌, ℕ, ◌+◌, ◌*◌, ◌/◌, ◌<◌, ◌≤◌, List, Some}
use Rattle.win_index.specs.Arcs.{part_at}
use Rattle.win_index.specs.Windows.{number_of}
use Rattle.round_eval.specs.BlockStates.{window_numbered, block_len}
use Rattle.win_index.specs.declared.limits.TheConstants.{BLOCK_WINDOWS}

-- the 2r+1 identifiers of a window from offset d on: the first, the middle and the last part of a window of level r+1
-- are at the offsets 0, 1 and 2
abbrev pub part : List ℕ → ℕ → ℕ → List ℕ
part w r d = part_at r d w

-- n is the number of a part of w, a window of the level above low
pub record IsPartNumber (m low : ℕ) (w : List ℕ) (n : ℕ) : Type 0 where
  pub offset : ℕ
  pub three : offset ≤ 2
  pub number_is : number_of (2 * low + 1) m (part w low offset) ≡ Some n

-- block c of level low is below block b of level r: low is one less, and block c holds a part of a window of block b. A
-- block of level 0 has none below
pub record IsBelow (m r b low c : ℕ) : Type 0 where
  pub one_lower : r ≡ low + 1
  pub place : ℕ
  pub inside : place < block_len m r b
  pub number : ℕ
  pub is_part : IsPartNumber m low (window_numbered m r (BLOCK_WINDOWS * b + place)) number
  pub block_is : c ≡ number / BLOCK_WINDOWS
