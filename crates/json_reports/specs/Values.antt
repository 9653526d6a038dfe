-- JSON values that are built from numbers, texts and lists, and the tokens of their parts.
use Rattle.std.specs.Prelude.{ℕ, List, [], ◌∷◌, map}
use Rattle.std.specs.List.{flat_map}
use Rattle.std.specs.Fmt.{decimal}
use Rattle.json.specs.Json.{Json, number, array, object, Items, no_items, item, Members, no_members, member}
use Rattle.json.specs.Print.{print}
use Rattle.json.specs.Token.{Token, key}
use Rattle.json.specs.Tree.{json_tokens}

-- a member of an object: its key and its value
abbrev pub Field : Type 0
Field = List ℕ × Json

-- a number, in decimal
abbrev pub numeral : ℕ → Json
numeral n = number (decimal n)

-- an array of these values
abbrev pub items_of : List Json → Items
items_of [] = no_items
items_of (v ∷ vs) = item v (items_of vs)

abbrev pub array_of : List Json → Json
array_of values = array (items_of values)

-- an object of these members
abbrev pub members_of : List Field → Members
members_of [] = no_members
members_of (f ∷ fs) = member f.0 f.1 (members_of fs)

abbrev pub object_of : List Field → Json
object_of fields = object (members_of fields)

-- an array of numbers
abbrev pub numbers : List ℕ → Json
numbers ns = array_of (map numeral ns)

-- an array of arrays of numbers
abbrev pub rows : List (List ℕ) → Json
rows nss = array_of (map numbers nss)

-- the tokens of values and of members, one after another
abbrev pub value_tokens : List Json → List Token
value_tokens = flat_map json_tokens

abbrev pub field_tokens : List Field → List Token
field_tokens = flat_map (λ f. key f.0 ∷ json_tokens f.1)

-- the text of a value, without blanks
abbrev pub json_text : Json → List ℕ
json_text value = print (json_tokens value)
