-- The lexeme of a program text that is the cause of a refusal: a register that the program lacks, or a misplaced `id`,
-- `L` or `R`. The tokens before a lexeme are listed from the nearest to the first.
use Rattle.std.specs.Prelude.{ℕ, ◌-◌, ◌==◌, ◌&&◌, Bool, true, false, not, List, [], ◌∷◌, length, Option, Some, None}
use Rattle.std.specs.Prelude.{find, if◌then◌else◌}
use Rattle.node_lang.specs.declared.token.Token.{Token}
use Rattle.node_lang.specs.declared.token.Token.TheVariants as token
use Rattle.node_lang.specs.Lexemes.{Lexeme, lexemes_of}
use Rattle.lang_check.specs.declared.acceptance.CheckFault.{CheckFault}
use Rattle.lang_check.specs.declared.acceptance.CheckFault.TheVariants as check

-- the register with this number
abbrev pub is_register : ℕ → Token → Bool
is_register j (token.Register k) = k == j
is_register j _ = false

-- `id`
abbrev pub is_id : Token → Bool
is_id token.Id = true
is_id _ = false

-- `L` or `R`
abbrev pub is_message : Token → Bool
is_message token.FromLeft = true
is_message token.FromRight = true
is_message _ = false

-- `start`, `round` or `finish`, which begin the parts of a program
abbrev pub begins_part : Token → Bool
begins_part token.Start = true
begins_part token.Round = true
begins_part token.Finish = true
begins_part _ = false

-- `send` or `=`, which precede the expressions of a round
abbrev pub begins_line : Token → Bool
begins_line token.Send = true
begins_line token.Equals = true
begins_line _ = false

abbrev pub is_start : Option Token → Bool
is_start (Some token.Start) = true
is_start _ = false

abbrev pub is_round : Option Token → Bool
is_round (Some token.Round) = true
is_round _ = false

abbrev pub is_equals : Option Token → Bool
is_equals (Some token.Equals) = true
is_equals _ = false

-- in `start`: of `start`, `round` and `finish` the nearest one before is `start`
abbrev pub in_start : List Token → Bool
in_start before = is_start (find begins_part before)

-- in a round: the nearest one before is `round`
abbrev pub in_round : List Token → Bool
in_round before = is_round (find begins_part before)

-- in an assignment: of `send` and `=` the nearest one before is `=`
abbrev pub in_assignment : List Token → Bool
in_assignment before = is_equals (find begins_line before)

-- The token is the cause of this refusal: the register; an `id` that is not in `start`; an `L` or an `R` that is not in
-- an assignment of a round. The other refusals have no such token.
abbrev pub is_cause : CheckFault → List Token → Token → Bool
is_cause (check.RegisterOutOfRange j) before t = is_register j t
is_cause check.IdOutsideStart before t = is_id t && not (in_start before)
is_cause check.MessageOutsideStep before t = is_message t && not (in_round before && in_assignment before)
is_cause _ before t = false

-- the first of these lexemes that is the cause
abbrev pub first_cause : CheckFault → List Token → List Lexeme → Option Lexeme
first_cause f before [] = None
first_cause f before (l ∷ ls) = if is_cause f before l.token then Some l else first_cause f (l.token ∷ before) ls

-- the offset of a lexeme of a text, if there is one
abbrev pub offset_in : List ℕ → Option Lexeme → Option ℕ
offset_in text None = None
offset_in text (Some l) = Some (length text - l.from)

-- the offset of the first lexeme of the text that is the cause of this refusal
abbrev pub offset_of_cause : List ℕ → CheckFault → Option ℕ
offset_of_cause text f = offset_in text (first_cause f [] (lexemes_of text))
