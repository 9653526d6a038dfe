-- The JSON text of a table is its parts.
use Rattle.std.proofs.Common.{◌≡◌, ℕ, List, [], ◌∷◌, ◌++◌, map, drop, true, false, refl, sym, ap, ◌∙◌, append_assoc}
use Rattle.std.specs.List.{flat_map}
use Rattle.std.specs.Fmt.{decimal}
use Rattle.std.specs.Prelude.{codes, fold}
use Rattle.channel_tables.specs.Tables.{ChannelTable}
use Rattle.channel_tables.specs.declared.separation.Separation.{Separation}
use Rattle.json.specs.Print.{print, print_from, ends}
use Rattle.json.specs.Token.{end_array, end_object}
use Rattle.json.specs.Tree.{json_tokens}
use Rattle.json.proofs.Printed.Tokens.{print_from-append}
use Rattle.json_reports.specs.Json.{table_fields}
use Rattle.json_reports.specs.TableTexts.{entry_text, head_text, head_tokens, rest_text, table_json}
use Rattle.json_reports.specs.Values.{numeral, object_of, value_tokens}
use Rattle.json_reports.proofs.Closings.{array_tokens}

-- channels behind another one, and the end
rest_is : (ns : List ℕ) → print_from true (value_tokens (map numeral ns) ++ end_array ∷ end_object ∷ [])
    ≡ flat_map entry_text ns ++ codes "]}"
unfolding print_from
rest_is [] = refl
rest_is (n ∷ ns) = ap (λ (text : List ℕ). 44 ∷ (decimal n ++ text)) (rest_is ns)
    ∙ ap (λ (text : List ℕ). 44 ∷ text) (sym (append_assoc (decimal n) (flat_map entry_text ns) (codes "]}")))

-- the table of these numbers
abbrev table : (ids rounds channels : ℕ) → List ℕ → ChannelTable
table ids rounds channels entries = record { ids = ids; rounds = rounds; channels = channels; entries = entries }

tokens_are : (ids rounds channels : ℕ) (entries : List ℕ) (s : Separation)
    → json_tokens (object_of (table_fields (table ids rounds channels entries) s))
    ≡ head_tokens (table ids rounds channels entries) s
    ++ (value_tokens (map numeral (drop 1 entries)) ++ end_array ∷ end_object ∷ [])
tokens_are ids rounds channels [] s = refl
tokens_are ids rounds channels (n ∷ ns) s =
    ap (λ ts. head_tokens (table ids rounds channels (n ∷ [])) s ++ ts)
    (ap (λ ts. ts ++ end_object ∷ []) (array_tokens (map numeral ns))
    ∙ append_assoc (value_tokens (map numeral ns)) (end_array ∷ []) (end_object ∷ []))

rest_printed : (ids rounds channels : ℕ) (entries : List ℕ) (s : Separation)
    → print_from (fold (λ _ u. ends u) false (head_tokens (table ids rounds channels entries) s))
    (value_tokens (map numeral (drop 1 entries)) ++ end_array ∷ end_object ∷ [])
    ≡ flat_map entry_text (drop 1 entries) ++ codes "]}"
unfolding print_from
rest_printed ids rounds channels [] s = refl
rest_printed ids rounds channels (n ∷ ns) s = rest_is ns

parts_are : (ids rounds channels : ℕ) (entries : List ℕ) (s : Separation)
    → head_text (table ids rounds channels entries) s ++ rest_text (drop 1 entries)
    ≡ table_json (table ids rounds channels entries) s
parts_are ids rounds channels entries s =
    let t = table ids rounds channels entries in
    let rest = value_tokens (map numeral (drop 1 entries)) ++ end_array ∷ end_object ∷ [] in
    let text = flat_map entry_text (drop 1 entries) in
    let printed : print (json_tokens (object_of (table_fields t s))) ≡ head_text t s ++ (text ++ codes "]}") =
    ap print (tokens_are ids rounds channels entries s) ∙ print_from-append false (head_tokens t s) rest
    ∙ ap (λ (l : List ℕ). head_text t s ++ l) (rest_printed ids rounds channels entries s) in
    sym (ap (λ (l : List ℕ). l ++ 10 ∷ []) printed ∙ append_assoc (head_text t s) (text ++ codes "]}") (10 ∷ [])
    ∙ ap (λ (l : List ℕ). head_text t s ++ l) (append_assoc text (codes "]}") (10 ∷ [])))

-- the parts of a table's text are its text
pub table_is : (t : ChannelTable) (s : Separation) → head_text t s ++ rest_text (drop 1 t.entries) ≡ table_json t s
table_is t s = parts_are t.ids t.rounds t.channels t.entries s
