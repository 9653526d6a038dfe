-- The lower bound for the channels of global rounds.
use Rattle.std.proofs.Common.{◌≡◌, ℕ, suc, ◌+◌, ◌*◌, ◌<◌, ◌≤◌, ◌++◌, ◌∷◌, [], List, length, get_or, take, sym, ap, ◌∙◌}
use Rattle.std.proofs.Common.{arith, length-append}
use Rattle.std.proofs.Math.Seq.{take-append_seam}
use Rattle.std.proofs.lemmas.List.{length-map}
use Rattle.std.proofs.lemmas.List.Elements.{All-map}
use Rattle.std.proofs.lemmas.Option.{slice_get-get_or, same_Some}
use Rattle.node_program.specs.GlobalRounds.{channel_at}
use Rattle.node_program.specs.Term.{ProgramTree}
use Rattle.win_index.specs.Arcs.{part_at}
use Rattle.win_index.specs.Laws.{TuplesAreRings}
use Rattle.win_index.specs.Windows.{windows, IsWindow}
use Rattle.win_index.proofs.Windows.{windows_all, longer_window}
use Rattle.channel_tables.specs.Tables.{ChannelTable, channel_of}
use Rattle.table_fill.specs.Laws.{TableHasTheChannelsOfRounds, TableHasTheChannelsOfWindows}
use Rattle.table_fill.specs.ProgramTables.{table_of, window_channel}
use Rattle.headline.specs.Laws.{ProgramTablesAreApart, ProgramTablesSolve}
use Rattle.problem_bounds.specs.Laws as problem_bounds
use Rattle.ring_problems.specs.Known.{independent_set, matching}
use Rattle.lower_bound.specs.Laws.{IsFull, TablesNeedChannels, TablesNeedThree, TablesNeedFour, TablesNeedFive}
use Rattle.report_laws.specs.Laws.{ChannelsAreBelow, IndependentSetsNeedRounds, MatchingsNeedRounds, RoundsNeedChannels}
use Rattle.report_laws.specs.Laws.{RoundsNeedThree, RoundsNeedFour, RoundsNeedFive}

-- the channel that a window leaves is that of global rounds on some ring
window_below : TableHasTheChannelsOfRounds → TableHasTheChannelsOfWindows → TuplesAreRings
    → (p : ProgramTree) (m c : ℕ) (window : List ℕ)
    → 2 * length p.steps + 2 ≤ m → ChannelsAreBelow p m c → IsWindow (2 * length p.steps + 1) m window
    → window_channel p window < c
window_below of_rounds of_windows tuples p m c window long below is =
    let t : ℕ = length p.steps in
    let size = is.size in
    let more = longer_window (2 * t + 1) m window (omega (arith, long)) is in
    let list : List ℕ = window ++ more.0 ∷ [] in
    let next : suc (2 * t + 1) ≡ 2 * t + 1 + 1 = omega arith in
    let ring = tuples m t 1 list (omega arith) (rw next at more.1) in
    let within : t < length list = omega (arith, size, length-append window (more.0 ∷ [])) in
    let front : part_at t 0 list ≡ window = ap (λ k. take k list) (sym size) ∙ take-append_seam window (more.0 ∷ []) in
    let around = ap (channel_of (table_of p m)) (ring.1 ∙ front) in
    let same = same_Some (window_channel p window) (channel_at p list t)
    (sym (of_windows p m window is) ∙ sym around ∙ of_rounds p m list t ring.0 within) in
    rw same (below list t ring.0 within)

-- the table of a program with such a number of channels
of_program : ProgramTree → ℕ → ℕ → ChannelTable
of_program p m c = record (table_of p m) { channels = c }

full_table : TableHasTheChannelsOfRounds → TableHasTheChannelsOfWindows → TuplesAreRings → (p : ProgramTree) (m c : ℕ)
    → 2 * length p.steps + 2 ≤ m → ChannelsAreBelow p m c → IsFull (of_program p m c)
unfolding table_of of_program
full_table of_rounds of_windows tuples p m c long below =
    let len : ℕ = 2 * length p.steps + 1 in
    record {
      size = length-map (windows len m) (window_channel p);
      below =
          All-map (λ channel. channel < c) (window_channel p) (windows len m) (λ k d lt.
          window_below of_rounds of_windows tuples p m c (get_or (windows len m) k d) long below
          (windows_all len m k (get_or (windows len m) k d) (slice_get-get_or (windows len m) k d lt)));
    }

pub rounds_need : TablesNeedChannels → ProgramTablesAreApart → TableHasTheChannelsOfRounds
    → TableHasTheChannelsOfWindows → TuplesAreRings
    → RoundsNeedChannels
unfolding table_of of_program
rounds_need need apart_tables of_rounds of_windows tuples p m c s long below near far apart =
    need (of_program p m c) s (full_table of_rounds of_windows tuples p m c long below) near far
    ((apart_tables p m s).1 apart)

pub rounds_need_three : TablesNeedThree → ProgramTablesAreApart → TableHasTheChannelsOfRounds
    → TableHasTheChannelsOfWindows → TuplesAreRings
    → RoundsNeedThree
unfolding table_of of_program
rounds_need_three need apart_tables of_rounds of_windows tuples p m c s long below near apart =
    need (of_program p m c) s (full_table of_rounds of_windows tuples p m c (omega (arith, long)) below) near long
    ((apart_tables p m s).1 apart)

pub rounds_need_four : TablesNeedFour → ProgramTablesAreApart → TableHasTheChannelsOfRounds
    → TableHasTheChannelsOfWindows → TuplesAreRings
    → RoundsNeedFour
unfolding table_of of_program
rounds_need_four need apart_tables of_rounds of_windows tuples p m c n s long short no_multiple below near far apart =
    need (of_program p m c) s n (full_table of_rounds of_windows tuples p m c (omega (arith, long, short)) below) near far long short no_multiple
    ((apart_tables p m s).1 apart)

pub rounds_need_five : TablesNeedFive → ProgramTablesAreApart → TableHasTheChannelsOfRounds
    → TableHasTheChannelsOfWindows → TuplesAreRings
    → RoundsNeedFive
unfolding table_of of_program
rounds_need_five need apart_tables of_rounds of_windows tuples p m c s rounds ids below near far apart =
    need (of_program p m c) s (full_table of_rounds of_windows tuples p m c (omega (arith, rounds, ids)) below) near far rounds ids
    ((apart_tables p m s).1 apart)

pub sets_need : problem_bounds.IndependentSetsNeedRounds → ProgramTablesSolve → TableHasTheChannelsOfRounds
    → TableHasTheChannelsOfWindows
    → TuplesAreRings → IndependentSetsNeedRounds
unfolding table_of of_program
sets_need need solving of_rounds of_windows tuples p m long below solve =
    need (of_program p m 2) (full_table of_rounds of_windows tuples p m 2 long below) (omega arith)
    ((solving p m independent_set).1 solve)

pub matchings_need : problem_bounds.MatchingsNeedRounds → ProgramTablesSolve → TableHasTheChannelsOfRounds
    → TableHasTheChannelsOfWindows
    → TuplesAreRings → MatchingsNeedRounds
unfolding table_of of_program
matchings_need need solving of_rounds of_windows tuples p m long below solve =
    need (of_program p m 3) (full_table of_rounds of_windows tuples p m 3 long below) (omega arith)
    ((solving p m matching).1 solve)
