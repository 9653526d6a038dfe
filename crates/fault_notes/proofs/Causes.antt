-- The first token that is the cause of a refusal, as the tokens are read one by one.
use Rattle.std.proofs.Common.{◌≡◌, ℕ, true, false, cond, List, [], ◌∷◌, refl, ◌∙◌, Some}
use Rattle.node_lang.specs.declared.token.Token.{Token}
use Rattle.node_lang.specs.declared.token.Token.TheVariants as token
use Rattle.node_lang.specs.Lexemes.{Lexeme, lexemes_of}
use Rattle.lang_check.specs.declared.acceptance.CheckFault.{CheckFault}
use Rattle.lang_check.specs.declared.acceptance.CheckFault.TheVariants as check
use Rattle.fault_notes.specs.FaultTokens.{is_cause, first_cause, offset_in, offset_of_cause}
use Rattle.fault_notes.specs.CauseTokens.{scope_after, next_scope, is_cause_at, cause_from, offset_from}

next_same : (before : List Token) (t : Token) → next_scope (scope_after before) t ≡ scope_after (t ∷ before)
next_same before token.Start = refl
next_same before token.Round = refl
next_same before token.Finish = refl
next_same before token.Send = refl
next_same before token.Equals = refl
next_same before _ = refl

cause_same : (f : CheckFault) (before : List Token) (t : Token) →
    is_cause_at f (scope_after before) t ≡ is_cause f before t
cause_same (check.RegisterOutOfRange j) before (token.Register k) = refl
cause_same (check.RegisterOutOfRange j) before _ = refl
cause_same check.IdOutsideStart before token.Id = refl
cause_same check.IdOutsideStart before _ = refl
cause_same check.MessageOutsideStep before token.FromLeft = refl
cause_same check.MessageOutsideStep before token.FromRight = refl
cause_same check.MessageOutsideStep before _ = refl
cause_same _ before _ = refl

finds : (text : List ℕ) (f : CheckFault) (before : List Token) (ls : List Lexeme) →
    offset_from text (cause_from f (scope_after before) ls) ≡ offset_in text (first_cause f before ls)
finds text f before [] = refl
finds text f before (l ∷ ls) =
    (λ i. offset_from text (cond (cause_same f before l.token i) (Some l.from)
    (cause_from f (next_same before l.token i) ls)))
    ∙ elim (is_cause f before l.token) as (λ c.
    offset_from text (cond c (Some l.from) (cause_from f (scope_after (l.token ∷ before)) ls))
    ≡ offset_in text (cond c (Some l) (first_cause f (l.token ∷ before) ls))) [
      | true ↦ refl
      | false ↦ finds text f (l.token ∷ before) ls
    ]

-- before the first token
pub found : (text : List ℕ) (f : CheckFault) →
    offset_from text (cause_from f (scope_after []) (lexemes_of text)) ≡ offset_of_cause text f
found text f = finds text f [] (lexemes_of text)
