-- A JSON reader finds a value in its text.
use Rattle.std.proofs.Common.{◌≡◌, ◌≤◌, [], sym, ap, ◌∙◌, append-nil}
use Rattle.std.specs.Prelude.{Result, Ok, Err, OnOk, option_and_then}
use Rattle.json.specs.Json.{Json, if_last, max_depth, value}
use Rattle.json.specs.Lex.{tokens}
use Rattle.json.specs.Print.{print}
use Rattle.json.specs.Tree.{depth, json_tokens}
use Rattle.json.proofs.Printed.Trees.{value-json_tokens}
use Rattle.json_reports.specs.Reports.{IsRead}

-- if the tokens are read back, and the value is not too deep
pub read_back : (j : Json) → tokens (print (json_tokens j)) ≡ json_tokens j → depth j ≤ max_depth → IsRead j
read_back j same shallow =
    ap (option_and_then (λ p. if_last p.0 p.1))
    (ap (value max_depth) (same ∙ sym (append-nil (json_tokens j))) ∙ value-json_tokens j max_depth [] shallow)

-- what holds of every result
pub on_ok : {T E P : Type 0} (r : Result T E) → P → OnOk r P
on_ok (Ok _) p = p
on_ok (Err _) p = tt
