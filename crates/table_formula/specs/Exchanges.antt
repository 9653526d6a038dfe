-- Formulas and tables with identifiers or channels exchanged.
use Rattle.std.specs.Prelude.{◌==◌, ℕ, ◌+◌, ◌-◌, ◌*◌, ◌/◌, ◌%◌, Bool, true, false, ◌&&◌, List, [], map, nat_le, nat_lt}
use Rattle.std.specs.Prelude.{unwrap_or, slice_index_or, if◌then◌else◌}
use Rattle.node_program.specs.declared.limits.TheConstants.{MAX_CHANNELS}
use Rattle.win_index.specs.Windows.{number_of}
use Rattle.std.specs.List.{list_all, list_any}
use Rattle.ring_problems.specs.declared.pattern.Entry.{Entry}
use Rattle.ring_problems.specs.declared.pattern.Entry.TheVariants.{Wildcard, Channel}
use Rattle.ring_problems.specs.declared.pattern.Pattern.{Pattern}
use Rattle.table_formula.specs.declared.literal.Literal.{Literal}
use Rattle.table_formula.specs.declared.formula.exchange.Exchange.{Exchange}
use Rattle.table_formula.specs.declared.formula.exchange.Exchange.TheVariants.{Identifiers, Channels, Mirror}
use Rattle.table_formula.specs.Problems.{Problem}
use Rattle.table_formula.specs.Formula.{patterns_of, windows_of, variable_of}

-- each of two numbers for the other; any other number stays
abbrev pub exchanged : ℕ → ℕ → ℕ → ℕ
exchanged first second number = if number == first then second else (if number == second then first else number)

-- the channel that is as far from the other end of so many channels
abbrev pub mirrored : ℕ → ℕ → ℕ
mirrored channels channel = channels - 1 - channel

-- an entry, and a pattern, with another channel for each that it asks for
abbrev pub entry_by : (ℕ → ℕ) → Entry → Entry
entry_by other Wildcard = Wildcard
entry_by other (Channel c) = Channel (other c)

abbrev pub pattern_by : (ℕ → ℕ) → Pattern → Pattern
pattern_by other p =
    record { first = entry_by other p.first; second = entry_by other p.second; third = entry_by other p.third }

-- whether two entries, and two patterns, are the same
abbrev pub is_same_entry : Entry → Entry → Bool
is_same_entry Wildcard Wildcard = true
is_same_entry (Channel c) (Channel d) = c == d
is_same_entry _ _ = false

abbrev pub is_same_pattern : Pattern → Pattern → Bool
is_same_pattern p q = is_same_entry p.first q.first
    && (is_same_entry p.second q.second && is_same_entry p.third q.third)

-- whether each pattern with other channels is a pattern of the list again
abbrev pub map_to_themselves : (ℕ → ℕ) → List Pattern → Bool
map_to_themselves other patterns = list_all (λ p. list_any (is_same_pattern (pattern_by other p)) patterns) patterns

-- whether tables that solve the problem do so after this exchange too: its numbers are identifiers of the problem;
-- or they are channels, and the separation only tells which channels differ; or it is the mirror, which keeps all
-- distances. By other channels the patterns that the tables can match have to map to themselves
abbrev pub can_exchange : Problem → Exchange → Bool
can_exchange p (Identifiers first second) = nat_lt first p.ids && nat_lt second p.ids
can_exchange p (Channels first second) =
    nat_lt first p.channels
    && (nat_lt second p.channels
    && (nat_le p.channels MAX_CHANNELS
    && (nat_le p.separation.near 1
    && (nat_le p.separation.far 1 && map_to_themselves (exchanged first second) (patterns_of p)))))
can_exchange p Mirror = nat_le p.channels MAX_CHANNELS && map_to_themselves (mirrored p.channels) (patterns_of p)

-- the number of the window that has two identifiers of the window with this number exchanged
abbrev pub exchanged_window : Problem → ℕ → ℕ → ℕ → ℕ
exchanged_window p first second window =
    unwrap_or (number_of (2 * p.rounds + 1) p.ids
    (map (exchanged first second) (slice_index_or (windows_of p) window []))) 0

-- the variable that says after the exchange what this one says
abbrev pub exchanged_variable : Problem → Exchange → ℕ → ℕ
exchanged_variable p (Identifiers first second) variable =
    variable_of p (exchanged_window p first second (variable / p.channels)) (variable % p.channels)
exchanged_variable p (Channels first second) variable =
    variable_of p (variable / p.channels) (exchanged first second (variable % p.channels))
exchanged_variable p Mirror variable = variable_of p (variable / p.channels)
    (mirrored p.channels (variable % p.channels))

abbrev pub exchanged_literal : Problem → Exchange → Literal → Literal
exchanged_literal p exchange l =
    record { variable = exchanged_variable p exchange l.variable; is_positive = l.is_positive }
