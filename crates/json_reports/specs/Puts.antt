-- What is appended to a JSON writer.
use Rattle.std.specs.Prelude.{◌≡◌, List, ◌++◌, OnOk, Result}
use Rattle.json.specs.Json.{Json}
use Rattle.json.specs.Token.{Token}
use Rattle.json.specs.Written.{Written}
use Rattle.json_reports.specs.Values.{Field, field_tokens, value_tokens}

-- These tokens were appended, unless memory was refused. What the writer began with stays.
pub record Puts {E : Type 0} (result : Result (Unit {0}) E) (old new : Written) (tokens : List Token) : Type 0 where
  pub ok : OnOk result (new.tokens ≡ old.tokens ++ tokens)
  pub before : new.before ≡ old.before

-- these values were appended
abbrev pub PutsValues : {E : Type 0} → Result (Unit {0}) E → Written → Written → List Json → Type 0
PutsValues result old new values = Puts result old new (value_tokens values)

-- these members were appended
abbrev pub PutsFields : {E : Type 0} → Result (Unit {0}) E → Written → Written → List Field → Type 0
PutsFields result old new fields = Puts result old new (field_tokens fields)
