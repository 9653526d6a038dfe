-- The words of a program text, and the token that each of them is.
use Rattle.std.specs.Prelude.{ℕ, ◌+◌, ◌-◌, ◌*◌, ◌^◌, ◌==◌, ◌&&◌, ◌||◌, Bool, nat_lt, nat_le, List, [], ◌∷◌, Option}
use Rattle.std.specs.Prelude.{Some, None, codes, find, if◌then◌else◌}
use Rattle.std.specs.Borrow.{Bor}
use Rattle.std.specs.List.{list_all}
use Rattle.std.specs.Str.{bytes_eq}
use Rattle.node_program.specs.declared.tree.UnOp.{UnOp}
use Rattle.node_program.specs.declared.tree.UnOp.TheVariants.{Not}
use Rattle.node_program.specs.declared.tree.BinOp.{BinOp}
use Rattle.node_program.specs.declared.tree.BinOp.TheVariants as op
use Rattle.node_lang.specs.declared.token.Token.{Token}
use Rattle.node_lang.specs.declared.token.Token.TheVariants as token

-- byte 10, 9, 13 or 32
abbrev pub is_blank : ℕ → Bool
is_blank b = (b == 10) || (b == 9) || (b == 13) || (b == 32)

abbrev pub is_digit : ℕ → Bool
is_digit b = nat_le 48 b && nat_le b 57

-- an ASCII letter or digit
abbrev pub is_word_byte : ℕ → Bool
is_word_byte b = is_digit b || (nat_le 65 b && nat_le b 90) || (nat_le 97 b && nat_le b 122)

abbrev pub unary_name : UnOp → List ℕ
unary_name Not = codes "not"

abbrev pub binary_name : BinOp → List ℕ
binary_name op.And = codes "and"
binary_name op.Or = codes "or"
binary_name op.Xor = codes "xor"
binary_name op.Shl = codes "shl"
binary_name op.Shr = codes "shr"
binary_name op.Add = codes "add"
binary_name op.Sub = codes "sub"
binary_name op.Min = codes "min"
binary_name op.Max = codes "max"
binary_name op.Ldb = codes "ldb"
binary_name op.Bit = codes "bit"
binary_name op.Eq = codes "eq"
binary_name op.Ne = codes "ne"
binary_name op.Lt = codes "lt"
binary_name op.Le = codes "le"

-- the spelling of a token; empty for the tokens that are no fixed words
abbrev pub word_of : Token → List ℕ
word_of token.Rounds = codes "rounds"
word_of token.Channels = codes "channels"
word_of token.Registers = codes "registers"
word_of token.Start = codes "start"
word_of token.Round = codes "round"
word_of token.Send = codes "send"
word_of token.Left = codes "left"
word_of token.Right = codes "right"
word_of token.Finish = codes "finish"
word_of token.Id = codes "id"
word_of token.FromLeft = codes "L"
word_of token.FromRight = codes "R"
word_of token.If = codes "if"
word_of (token.One o) = unary_name o
word_of (token.Two o) = binary_name o
word_of _ = []

-- the words that are not names of operations
abbrev pub keywords : List Token
keywords = token.Rounds ∷ token.Channels ∷ token.Registers ∷ token.Start ∷ token.Round ∷ token.Send ∷ token.Left
    ∷ token.Right ∷ token.Finish ∷ token.Id ∷ token.FromLeft ∷ token.FromRight ∷ []

-- the seventeen operations
abbrev pub operations : List Token
operations = token.One Not ∷ token.Two op.And ∷ token.Two op.Or ∷ token.Two op.Xor ∷ token.Two op.Shl
    ∷ token.Two op.Shr ∷ token.Two op.Add ∷ token.Two op.Sub ∷ token.Two op.Min ∷ token.Two op.Max
    ∷ token.Two op.Ldb ∷ token.Two op.Bit ∷ token.Two op.Eq ∷ token.Two op.Ne ∷ token.Two op.Lt
    ∷ token.Two op.Le ∷ token.If ∷ []

-- the token among these that has this spelling
abbrev pub named : List Token → List ℕ → Option Token
named tokens word = find (λ t. bytes_eq word (word_of t)) tokens

-- the token of the first row with this word
abbrev pub token_in : List (Bor (List ℕ) × Token) → List ℕ → Option Token
token_in [] word = None
token_in (row ∷ rows) word = if bytes_eq word row.0.now then Some row.1 else token_in rows word

-- the number of decimal digits that follow those of n
abbrev pub read_on : ℕ → List ℕ → ℕ
read_on n [] = n
read_on n (d ∷ ds) = read_on (10 * n + (d - 48)) ds

-- the token of a sequence of digits
abbrev pub number_token : List ℕ → Token
number_token word = if nat_lt (read_on 0 word) (2 ^ 32) then token.Number (read_on 0 word) else token.LargeNumber

-- `r` and one digit
abbrev pub register_named : List ℕ → Option Token
register_named (r ∷ d ∷ []) = if (r == 114) && is_digit d then Some (token.Register (d - 48)) else None
register_named _ = None

-- the first token that is given, or the unknown one
abbrev pub or_unknown : Option Token → Option Token → Option Token → Token
or_unknown (Some t) _ _ = t
or_unknown None (Some t) _ = t
or_unknown None None (Some t) = t
or_unknown None None None = token.Unknown

-- the token of a word
unfoldable pub word_token : List ℕ → Token
word_token word = if list_all is_digit word then number_token word
    else or_unknown (register_named word) (named keywords word) (named operations word)

-- the token of any other byte
abbrev pub mark_token : ℕ → Token
mark_token b = if b == 40 then token.Open else if b == 41 then token.Close
    else if b == 44 then token.Comma else if b == 61 then token.Equals else token.Unknown
