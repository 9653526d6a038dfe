use Rattle.std.proofs.Common.{◌≡◌, ◌++◌, map, take}
use Rattle.json_reports.specs.Values.{value_tokens}
use Rattle.json_reports.specs.Json.{round_value}
use Rattle.value_trees.specs.Rows.{rows_of_round}
use Rattle.json_reports.proofs.traces.put_each_round.Given as goal

-- those so far were appended
abbrev pub invariant-loop-round : goal.invariant-loop-round
invariant-loop-round l =
    (l.writer.tokens ≡ l.initial.writer.tokens
    ++ value_tokens (map round_value (map rows_of_round (take l.round-index l.rounds))))
    × (l.writer.before ≡ l.initial.writer.before)
