-- The scopes of a text that its tokens are in, as they are read one by one. No public contract cites this file.
use Rattle.std.specs.Prelude.{ℕ, ◌-◌, ◌==◌, ◌&&◌, Bool, true, false, not, List, [], ◌∷◌, length, Option, Some}
use Rattle.std.specs.Prelude.{None, if◌then◌else◌}
use Rattle.node_lang.specs.declared.token.Token.{Token}
use Rattle.node_lang.specs.declared.token.Token.TheVariants as token
use Rattle.node_lang.specs.Lexemes.{Lexeme}
use Rattle.lang_check.specs.declared.acceptance.CheckFault.{CheckFault}
use Rattle.lang_check.specs.declared.acceptance.CheckFault.TheVariants as check
use Rattle.fault_notes.specs.declared.cause_tokens.Scope.{Scope}
use Rattle.fault_notes.specs.FaultTokens.{in_start, in_round, in_assignment}

-- the scope after these tokens
abbrev pub scope_after : List Token → Scope
scope_after before =
    record { in_start = in_start before; in_round = in_round before; in_assignment = in_assignment before }

-- the scope after one more token
abbrev pub next_scope : Scope → Token → Scope
next_scope s token.Start = record { in_start = true; in_round = false; in_assignment = s.in_assignment }
next_scope s token.Round = record { in_start = false; in_round = true; in_assignment = s.in_assignment }
next_scope s token.Finish = record { in_start = false; in_round = false; in_assignment = s.in_assignment }
next_scope s token.Send = record { in_start = s.in_start; in_round = s.in_round; in_assignment = false }
next_scope s token.Equals = record { in_start = s.in_start; in_round = s.in_round; in_assignment = true }
next_scope s _ = s

-- a token is the cause of this refusal in this scope
abbrev pub is_cause_at : CheckFault → Scope → Token → Bool
is_cause_at (check.RegisterOutOfRange j) s (token.Register k) = k == j
is_cause_at check.IdOutsideStart s token.Id = not s.in_start
is_cause_at check.MessageOutsideStep s token.FromLeft = not (s.in_round && s.in_assignment)
is_cause_at check.MessageOutsideStep s token.FromRight = not (s.in_round && s.in_assignment)
is_cause_at _ s _ = false

-- the number of bytes from the first cause on
abbrev pub cause_from : CheckFault → Scope → List Lexeme → Option ℕ
cause_from f s [] = None
cause_from f s (l ∷ ls) = if is_cause_at f s l.token then Some l.from else cause_from f (next_scope s l.token) ls

-- the offset of what has so many bytes from it on
abbrev pub offset_from : List ℕ → Option ℕ → Option ℕ
offset_from text None = None
offset_from text (Some from) = Some (length text - from)
