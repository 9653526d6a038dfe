-- Forbidden patterns: a problem is a list of them, none of which the channels of a place and of the two places
-- after it may match. These are the locally checkable labellings of Naor and Stockmeyer (1995), of radius 1 on
-- oriented rings.
use Rattle.std.specs.Prelude.{◌≡◌, ℕ, ◌<◌, Bool, true, false, ◌&&◌, nat_lt, if◌then◌else◌, Option, Some}
use Rattle.std.specs.Prelude.{List, slice_get}
use Rattle.std.specs.List.{list_any}
use Rattle.ring_problems.specs.declared.pattern.Entry.{Entry}
use Rattle.ring_problems.specs.declared.pattern.Entry.TheVariants.{Wildcard, Channel}
use Rattle.ring_problems.specs.declared.pattern.Pattern.{Pattern}

-- the channel is as an entry of a pattern says
abbrev pub Fits : Entry → Option ℕ → Type 0
Fits Wildcard channel = Unit {0}
Fits (Channel c) channel = channel ≡ Some c

-- the channels of three places in a row are as a pattern says
abbrev pub Matches : Pattern → Option ℕ → Option ℕ → Option ℕ → Type 0
Matches p a b c = Fits p.first a × Fits p.second b × Fits p.third c

-- some pattern of the problem matches them
abbrev pub IsForbidden : List Pattern → Option ℕ → Option ℕ → Option ℕ → Type 0
IsForbidden problem a b c = (n : ℕ) × (p : Pattern) × (slice_get problem n ≡ Some p) × Matches p a b c

-- the first pattern of the problem that matches them
pub record IsFirstMatch (problem : List Pattern) (a b c : Option ℕ) (pattern : Pattern) : Type 0 where
  pub number : ℕ
  pub item : slice_get problem number ≡ Some pattern
  pub matches : Matches pattern a b c
  pub first : (n : ℕ) (p : Pattern) → n < number → slice_get problem n ≡ Some p → ¬ Matches p a b c

-- whether an entry asks for one channel
abbrev pub is_channel : Entry → Bool
is_channel Wildcard = false
is_channel (Channel c) = true

-- whether a pattern asks something of the third place
abbrev pub has_third : Pattern → Bool
has_third p = is_channel p.third

-- whether an entry asks for no channel, or for one below a number
abbrev pub is_entry_below : ℕ → Entry → Bool
is_entry_below channels Wildcard = true
is_entry_below channels (Channel c) = nat_lt c channels

-- whether all entries of a pattern do, so that channels below the number can match it
abbrev pub is_below : ℕ → Pattern → Bool
is_below channels p = is_entry_below channels p.first
    && (is_entry_below channels p.second && is_entry_below channels p.third)

-- whether some pattern asks something of the third place
abbrev pub is_long : List Pattern → Bool
is_long problem = list_any has_third problem

-- by how many identifiers a tuple is longer than a window: 2 if a pattern asks something of the third place, else 1
abbrev pub extra : List Pattern → ℕ
extra problem = if is_long problem then 2 else 1
