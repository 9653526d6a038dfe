use Rattle.std.proofs.Common.{◌≡◌, ◌++◌, map, take}
use Rattle.json_reports.specs.Values.{value_tokens}
use Rattle.json_reports.specs.Json.{pattern_value}
use Rattle.json_reports.proofs.noes.put_each_pattern.Given as goal

-- those so far were appended
abbrev pub invariant-loop-pattern : goal.invariant-loop-pattern
invariant-loop-pattern l =
    (l.writer.tokens ≡ l.initial.writer.tokens ++ value_tokens (map pattern_value (take l.pattern-index l.patterns)))
    × (l.writer.before ≡ l.initial.writer.before)
