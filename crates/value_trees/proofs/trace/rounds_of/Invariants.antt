use Rattle.std.proofs.Common.{◌≡◌, map}
use Rattle.std.specs.List.{range_with_len}
use Rattle.value_trees.specs.Rows.{round_rows, rows_of_round}
use Rattle.value_trees.proofs.trace.rounds_of.Given as goal

-- the rows of the rounds so far, which are done
abbrev pub invariant-loop-round : goal.invariant-loop-round
invariant-loop-round l = record {
  done : l.places ≡ record l.fn.places { round = l._round };
  rows : map rows_of_round l.rounds.items
      ≡ map (round_rows l.fn.places.program l.fn.places.places) (range_with_len 0 l._round);
}
