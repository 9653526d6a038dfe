-- The channels of the windows that have the last identifier of a window first: that window comes before it in a row.
use Rattle.std.specs.Prelude.{◌≡◌, ℕ, ◌<◌, List, [], ◌∷◌, ◌++◌, Some, slice_get, slice_index}
use Rattle.channel_tables.specs.Tables.{ChannelTable, windows_of}

-- for each window z x the channel of the window x z, if that one has a number below the limit
abbrev pub AreBefore : ChannelTable → ℕ → List ℕ → Type 0
AreBefore t limit before =
    (number turned x : ℕ) (z : List ℕ) → number < limit → slice_get (windows_of t) number ≡ Some (x ∷ z)
    → slice_get (windows_of t) turned ≡ Some (z ++ x ∷ []) → slice_index before turned ≡ slice_index t.entries number
