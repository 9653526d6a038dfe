-- The first tuples of the table of a plan's program.
use Rattle.std.specs.Prelude.{◌≡◌, ℕ, ◌<◌, List, min, length}
use Rattle.lang_check.specs.Plans.{ProgramForIds}
use Rattle.channel_tables.specs.Tables.{ChannelTable}
use Rattle.channel_tables.specs.declared.separation.Separation.{Separation}
use Rattle.channel_tables.specs.Apart.{tuples, IsLeastBad}
use Rattle.ring_problems.specs.declared.pattern.Pattern.{Pattern}
use Rattle.ring_problems.specs.Problems as problems
use Rattle.ring_problems.specs.TupleLists.{ring_of}
use Rattle.table_fill.specs.ProgramTables.{table_of}
use Rattle.plan_print.specs.declared.first_tuples.TheConstants.{FIRST_TUPLES}

-- the table of a plan's program
abbrev pub plan_table : ProgramForIds → ChannelTable
plan_table plan = table_of plan.program plan.ids

-- the number of tuples that are judged before the table is filled: FIRST_TUPLES, or all if there are fewer
abbrev pub first_count : ProgramForIds → Separation → ℕ
first_count plan s = min FIRST_TUPLES (length (tuples (plan_table plan) s))

-- the ring is the least bad tuple of the table, and one of those that are judged before the table is filled
abbrev pub IsFirstBad : ProgramForIds → Separation → List ℕ → Type 0
IsFirstBad plan s ring = (number : ℕ) × IsLeastBad (plan_table plan) s 0 number ring × (number < first_count plan s)

-- the number of tuples that are judged for a problem before the table is filled: FIRST_TUPLES, or all if there are
-- fewer
abbrev pub first_pattern_count : ProgramForIds → List Pattern → ℕ
first_pattern_count plan problem = min FIRST_TUPLES (length (problems.tuples (plan_table plan) problem))

-- the ring is that of the least bad tuple of the table for a problem, and that is one of those that are judged
-- before the table is filled
abbrev pub IsFirstBroken : ProgramForIds → List Pattern → List ℕ → Type 0
IsFirstBroken plan problem ring =
    (number : ℕ) × (tuple : List ℕ) × problems.IsLeastBad (plan_table plan) problem 0 number tuple
    × (ring ≡ ring_of tuple)
    × (number < first_pattern_count plan problem)
