use Rattle.std.proofs.Common.{◌≡◌, ◌++◌, map, take}
use Rattle.json_reports.specs.Values.{numeral, value_tokens}
use Rattle.json_reports.proofs.fields.put_numerals.Given as goal

-- the numbers so far were appended
abbrev pub invariant-loop-number : goal.invariant-loop-number
invariant-loop-number l =
    (l.writer.tokens ≡ l.initial.writer.tokens ++ value_tokens (map numeral (take l.number-index l.list)))
    × (l.writer.before ≡ l.initial.writer.before)
