-- The window that an odometer shows. No public contract cites this file.
use Rattle.std.specs.Prelude.{◌≡◌, ℕ, ◌+◌, ◌*◌, ◌<◌, ◌≤◌, List, [], ◌∷◌, ◌++◌, Some, length, take}
use Rattle.std.specs.Prelude.{slice_get, slice_index}
use Rattle.node_program.specs.declared.limits.TheConstants.{MAX_CHANNELS}
use Rattle.win_index.specs.declared.limits.TheConstants.{MAX_IDS, MAX_WINDOW_LEN}
use Rattle.win_index.specs.Windows.{windows}
use Rattle.table_text.specs.Orders.{IsOrder, IsLater, ArePlaces}
use Rattle.table_text.specs.Pieces.{prefix_text, id_text, channel_text, AreTexts}
use Rattle.table_text.specs.Prefixes.{HasTexts}
use Rattle.table_text.specs.TableText.{ids_then}
use Rattle.table_text.specs.declared.odometer.Odometer.{Odometer}
use Rattle.table_text.specs.declared.piece.Pieces.{Pieces}

-- all identifiers of the window but the last
abbrev pub front_of : Odometer → List ℕ
front_of o = take o.front o.order

-- the last identifier of the window
abbrev pub last_of : Odometer → ℕ
last_of o = slice_index o.order o.last

-- the window
abbrev pub window_of : Odometer → List ℕ
window_of o = front_of o ++ last_of o ∷ []

-- The identifiers are an order with its places, the last one of the window is one that its prefix lacks, and the
-- text of the prefix is written.
pub record IsOdometer (o : Odometer) : Type 0 where
  pub few : o.ids ≤ MAX_IDS
  pub short : o.front < MAX_WINDOW_LEN
  pub order : IsOrder o.front o.ids (take o.ids o.order)
  pub places : ArePlaces o.front o.order o.places
  pub from : o.front ≤ o.last
  pub within : o.last < o.ids
  pub texts : HasTexts o.prefix.bytes o.prefix.ends (front_of o)
  pub text : prefix_text o.prefix ≡ ids_then (front_of o) []

-- the odometer shows this window of numbers below m
pub record ShowsWindow (m : ℕ) (window : List ℕ) (o : Odometer) : Type 0 where
  pub odometer : IsOdometer o
  pub front : o.front + 1 ≡ length window
  pub ids : o.ids ≡ m
  pub shown : window_of o ≡ window

-- the odometer shows the window of t rounds and m identifiers that has the number n, if there is one
pub record ShowsNumber (t m n : ℕ) (o : Odometer) : Type 0 where
  pub odometer : IsOdometer o
  pub front : o.front ≡ 2 * t
  pub ids : o.ids ≡ m
  pub window : n < length (windows (2 * t + 1) m) → slice_get (windows (2 * t + 1) m) n ≡ Some (window_of o)

-- the new odometer has the old one's sizes, and shows the window that is so many later, if there is one
pub record IsAdvanced (count : ℕ) (old new : Odometer) : Type 0 where
  pub odometer : IsOdometer new
  pub front : new.front ≡ old.front
  pub ids : new.ids ≡ old.ids
  pub later : IsLater count (old.front + 1) old.ids (window_of old) (window_of new)

-- these are the pieces of the odometer's identifiers, and of as many channels as a table can have at the most
pub record HasPieces (o : Odometer) (pieces : Pieces) : Type 0 where
  pub odometer : IsOdometer o × (o.ids ≡ length pieces.ids.items)
  pub texts : AreTexts id_text pieces.ids.items × AreTexts channel_text pieces.channels.items
  pub few : length pieces.channels.items ≤ MAX_CHANNELS
