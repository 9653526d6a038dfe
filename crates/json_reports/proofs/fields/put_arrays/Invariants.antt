use Rattle.std.proofs.Common.{◌≡◌, ◌++◌, map, take}
use Rattle.json_reports.specs.Values.{numbers, value_tokens}
use Rattle.json_reports.proofs.fields.put_arrays.Given as goal

-- the arrays so far were appended
abbrev pub invariant-loop-list : goal.invariant-loop-list
invariant-loop-list l =
    (l.writer.tokens ≡ l.initial.writer.tokens
    ++ value_tokens (map numbers (map (λ list. list.items) (take l.list-index l.lists))))
    × (l.writer.before ≡ l.initial.writer.before)
