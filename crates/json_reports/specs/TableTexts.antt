-- The JSON text of a table, in the parts in which it is written.
use Rattle.std.specs.Prelude.{ℕ, List, [], ◌∷◌, ◌++◌, map, take, codes}
use Rattle.std.specs.List.{flat_map}
use Rattle.std.specs.Fmt.{decimal}
use Rattle.channel_tables.specs.Tables.{ChannelTable}
use Rattle.channel_tables.specs.declared.separation.Separation.{Separation}
use Rattle.json.specs.Print.{print}
use Rattle.json.specs.Token.{Token, begin_object, begin_array, key}
use Rattle.json_reports.specs.Json.{table_fields, table_head}
use Rattle.json_reports.specs.Values.{field_tokens, json_text, numeral, object_of, value_tokens}

-- the text of a table and a separation, and a line feed
abbrev pub table_json : ChannelTable → Separation → List ℕ
table_json t s = json_text (object_of (table_fields t s)) ++ 10 ∷ []

-- its tokens up to the channel of the first window
abbrev pub head_tokens : ChannelTable → Separation → List Token
head_tokens t s =
    begin_object ∷ (field_tokens (table_head t s) ++ key (codes "entries") ∷ begin_array
    ∷ value_tokens (map numeral (take 1 t.entries)))

abbrev pub head_text : ChannelTable → Separation → List ℕ
head_text t s = print (head_tokens t s)

-- a channel behind another one
abbrev pub entry_text : ℕ → List ℕ
entry_text n = codes "," ++ decimal n

-- these channels behind another one, and the end of the text
abbrev pub rest_text : List ℕ → List ℕ
rest_text entries = flat_map entry_text entries ++ codes "]}\n"
