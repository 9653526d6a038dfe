-- The note on a program that is not accepted.
use Rattle.std.specs.Prelude.{◌≡◌, ℕ, ◌+◌, ◌-◌, ◌*◌, ◌<◌, ◌≤◌, ◌==◌, nat_lt, ◌++◌, Bool, true, false, List, length}
use Rattle.std.specs.Prelude.{codes, if◌then◌else◌}
use Rattle.std.specs.List.{list_any}
use Rattle.std.specs.Fmt.{decimal}
use Rattle.node_program.specs.declared.limits.TheConstants.{MAX_CHANNELS}
use Rattle.win_index.specs.ShapeRange.{IsShape}
use Rattle.lang_check.specs.declared.acceptance.CheckFault.{CheckFault}
use Rattle.lang_check.specs.declared.acceptance.CheckFault.TheVariants as check
use Rattle.node_program.specs.Term.{ProgramTree}
use Rattle.node_lang.specs.declared.token.Token.{Token}
use Rattle.node_lang.specs.declared.token.Token.TheVariants as token
use Rattle.node_lang.specs.Lexemes.{lexemes_of}
use Rattle.fault_notes.specs.Located.{located_note}
use Rattle.fault_notes.specs.FaultTokens.{offset_of_cause}
use Rattle.fault_notes.specs.BoundNotes.{growth_text}

-- the greatest number of identifiers that makes a shape with t rounds; all from 2t+2 to it do
pub record IsMostIds (t most : ℕ) : Type 0 where
  pub makes : IsShape most t
  pub greatest : (m : ℕ) → most < m → ¬ IsShape m t
  pub between : (m : ℕ) → 2 * t + 2 ≤ m → m ≤ most → IsShape m t

abbrev pub rounds_take : ℕ → List ℕ
rounds_take t = if t == 1 then codes " round takes " else codes " rounds take "

-- the possible numbers of identifiers: one alone, or those from the least to the greatest
abbrev pub ids_range : ℕ → ℕ → List ℕ
ids_range least most =
    if least == most then codes "exactly " ++ decimal least else decimal least ++ (codes " to " ++ decimal most)

-- a number of identifiers that makes no shape with t rounds: the possible numbers
pub data IsIdsNote (t ids : ℕ) (note : List ℕ) : Type 0 where
  some : (most : ℕ) → IsMostIds t most →
      note ≡ codes "nbhd: " ++ (decimal t
      ++ (rounds_take t ++ (ids_range (2 * t + 2) most
      ++ (codes " identifiers, not " ++ (decimal ids ++ codes "\n"))))) →
      IsIdsNote t ids note
  none : ((m : ℕ) → ¬ IsShape m t) → note ≡ codes "nbhd: so many rounds take no number of identifiers\n" →
      IsIdsNote t ids note

abbrev pub register_cause : ℕ → List ℕ
register_cause j =
    codes "there is no register r"
    ++ (decimal j ++ codes "; `registers` says how many there are, from r0 to at most r7")

abbrev pub id_cause : List ℕ
id_cause = codes "`id` can be read in `start` alone; keep it in a register"

abbrev pub message_cause : List ℕ
message_cause = codes "`L` and `R` can be read in the assignments of a round alone; keep them in registers there"

-- the cap that keeps the values of `finish` below c channels, and when it changes none
abbrev pub cap_text : ℕ → List ℕ
cap_text c = codes "`finish min(.., "
    ++ (decimal (c - 1) ++ (codes ")` if none exceeds " ++ (decimal (c - 1) ++ codes "\n")))

-- the bound of `finish` in a program with c channels, the number of channels that it requires, and a cap
abbrev pub bound_note : ℕ → ℕ → List ℕ
bound_note c b = if nat_lt b MAX_CHANNELS
    then codes "nbhd: the bound of `finish` is " ++ (decimal b
    ++ (codes ", which its values need not reach: write `channels " ++ (decimal (b + 1)
    ++ (codes "` or more, or " ++ cap_text c))))
    else codes "nbhd: the bound of `finish` is " ++ (decimal b
    ++ (codes ", which its values need not reach, and `channels` is at most 4096: with `channels " ++ (decimal c
    ++ (codes "` write " ++ cap_text c))))

-- `not`
abbrev pub is_not : Token → Bool
is_not (token.One o) = true
is_not _ = false

-- whether a text has `not`
abbrev pub has_not : List ℕ → Bool
has_not text = list_any (λ l. is_not l.token) (lexemes_of text)

-- the line on `not` in a text, if no number of channels is above the bound
abbrev pub not_line : List ℕ → ℕ → List ℕ
not_line text b = if nat_lt b MAX_CHANNELS then codes "" else if has_not text
    then codes "nbhd: `not` changes all 32 bits of a number: the opposite of a condition x is `eq(x, 0)`\n"
    else codes ""

-- The note on the refusal of the program p of this text for `ids` identifiers. A register that the program lacks and a
-- misplaced `id`, `L` or `R` have the place of the first lexeme that is the cause.
abbrev pub IsCheckNote : List ℕ → ProgramTree → ℕ → CheckFault → List ℕ → Type 0
IsCheckNote text p ids check.IdsOutOfRange note = IsIdsNote (length p.steps) ids note
IsCheckNote text p ids check.TooManyWindows note = IsIdsNote (length p.steps) ids note
IsCheckNote text p ids (check.RegisterOutOfRange j) note =
    note ≡ located_note text (register_cause j) (offset_of_cause text (check.RegisterOutOfRange j))
IsCheckNote text p ids check.IdOutsideStart note =
    note ≡ located_note text id_cause (offset_of_cause text check.IdOutsideStart)
IsCheckNote text p ids check.MessageOutsideStep note =
    note ≡ located_note text message_cause (offset_of_cause text check.MessageOutsideStep)
IsCheckNote text p ids (check.ChannelBound b) note =
    note ≡ (bound_note p.channels b ++ growth_text p ids) ++ not_line text b
