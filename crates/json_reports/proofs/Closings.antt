-- The tokens of arrays and objects, with the bracket at the end.
use Rattle.std.proofs.Common.{◌≡◌, List, [], ◌∷◌, ◌++◌, sym, ap, ◌∙◌, append_assoc, append-nil, refl}
use Rattle.std.proofs.lemmas.Grind.{flat_map-append}
use Rattle.std.specs.Prelude.{Result, Ok, Err}
use Rattle.json.specs.Json.{Json}
use Rattle.json.specs.Token.{Token, begin_array, end_array, begin_object, end_object, key}
use Rattle.json.specs.Tree.{json_tokens, items_tokens, members_tokens}
use Rattle.json.specs.Written.{Writes, Written}
use Rattle.json_reports.specs.Puts.{Puts, PutsFields, PutsValues}
use Rattle.json_reports.specs.Values.{Field, array_of, items_of, members_of, object_of, value_tokens, field_tokens}

pub array_tokens : (vs : List Json) → items_tokens (items_of vs) ≡ value_tokens vs ++ end_array ∷ []
array_tokens [] = refl
array_tokens (v ∷ vs) = ap (λ ts. json_tokens v ++ ts) (array_tokens vs)
    ∙ sym (append_assoc (json_tokens v) (value_tokens vs) (end_array ∷ []))

pub object_tokens : (fs : List Field) → members_tokens (members_of fs) ≡ field_tokens fs ++ end_object ∷ []
object_tokens [] = refl
object_tokens (f ∷ fs) =
    ap (λ ts. key f.0 ∷ (json_tokens f.1 ++ ts)) (object_tokens fs)
    ∙ ap (λ ts. key f.0 ∷ ts) (sym (append_assoc (json_tokens f.1) (field_tokens fs) (end_object ∷ [])))

-- what appends a first token, then others and then a last one appends all of them
closes : {E : Type 0} (result : Result (Unit {0}) E) (old opened filled new : Written) (first last : Token)
    (body rest : List Token)
    → body ++ last ∷ [] ≡ rest → opened.tokens ≡ old.tokens ++ first ∷ [] → opened.before ≡ old.before
    → filled.tokens ≡ opened.tokens ++ body → filled.before ≡ opened.before → Writes result filled new last
    → Puts result old new (first ∷ rest)
closes (Err e) old opened filled new first last body rest whole begun same is kept closed =
    record { ok = tt; before = closed.room.0 ∙ kept ∙ same }
closes (Ok done) old opened filled new first last body rest whole begun same is kept closed = record {
  ok = closed.ok ∙ ap (λ ts. ts ++ last ∷ []) (is ∙ ap (λ ts. ts ++ body) begun
      ∙ append_assoc old.tokens (first ∷ []) body)
      ∙ append_assoc old.tokens (first ∷ body) (last ∷ []) ∙ ap (λ ts. old.tokens ++ first ∷ ts) whole;
  before = closed.room.0 ∙ kept ∙ same;
}

-- brackets with values between them are an array
pub puts_array : {E : Type 0} {d e : Unit {0}} (result : Result (Unit {0}) E) (old opened filled new : Written)
    (vs : List Json)
    → Writes {E = E} (Ok d) old opened begin_array → PutsValues {E = E} (Ok e) opened filled vs
    → Writes result filled new end_array
    → PutsValues result old new (array_of vs ∷ [])
puts_array result old opened filled new vs opens fills closed =
    closes result old opened filled new begin_array end_array (value_tokens vs) (items_tokens (items_of vs) ++ [])
    (sym (array_tokens vs) ∙ sym (append-nil (items_tokens (items_of vs)))) opens.ok opens.room.0 fills.ok fills.before closed

-- braces with members between them are an object
pub puts_object : {E : Type 0} {d e : Unit {0}} (result : Result (Unit {0}) E) (old opened filled new : Written)
    (fs : List Field)
    → Writes {E = E} (Ok d) old opened begin_object → PutsFields {E = E} (Ok e) opened filled fs
    → Writes result filled new end_object
    → PutsValues result old new (object_of fs ∷ [])
puts_object result old opened filled new fs opens fills closed =
    closes result old opened filled new begin_object end_object (field_tokens fs) (members_tokens (members_of fs) ++ [])
    (sym (object_tokens fs) ∙ sym (append-nil (members_tokens (members_of fs)))) opens.ok opens.room.0 fills.ok fills.before closed

-- the members of an object whose bracket was opened, and those of a note
pub noted_tokens : (new opened filled noted : List Token) (fs ns : List Field) → new ≡ []
    → opened ≡ new ++ begin_object ∷ []
    → filled ≡ opened ++ field_tokens fs → noted ≡ filled ++ field_tokens ns
    → noted ≡ begin_object ∷ field_tokens (fs ++ ns)
noted_tokens new opened filled noted fs ns none begun is more =
    more ∙ ap (λ ts. ts ++ field_tokens ns) (is
    ∙ ap (λ ts. ts ++ field_tokens fs) (begun ∙ ap (λ ts. ts ++ begin_object ∷ []) none))
    ∙ ap (λ ts. begin_object ∷ ts) (sym (flat_map-append (λ (f : Field). key f.0 ∷ json_tokens f.1) fs ns))

-- members that were appended, and then others
pub more : (old mid new : List Token) (fs gs : List Field) → mid ≡ old ++ field_tokens fs → new ≡ mid ++ field_tokens gs
    → new ≡ old ++ field_tokens (fs ++ gs)
more old mid new fs gs first second =
    second ∙ ap (λ ts. ts ++ field_tokens gs) first ∙ append_assoc old (field_tokens fs) (field_tokens gs)
    ∙ ap (λ ts. old ++ ts) (sym (flat_map-append (λ (f : Field). key f.0 ∷ json_tokens f.1) fs gs))

-- and those that the last call appends
pub puts_more : {E : Type 0} (result : Result (Unit {0}) E) (old mid new : Written) (fs gs : List Field)
    → mid.tokens ≡ old.tokens ++ field_tokens fs
    → mid.before ≡ old.before → PutsFields result mid new gs → PutsFields result old new (fs ++ gs)
puts_more (Err e) old mid new fs gs first kept second = record { ok = tt; before = second.before ∙ kept }
puts_more (Ok done) old mid new fs gs first kept second =
    record { ok = more old.tokens mid.tokens new.tokens fs gs first second.ok; before = second.before ∙ kept }
