-- What writing leaves in a writer.
-- The bytes that a writer holds are known or not, as `Some` or `None`.
use Rattle.std.specs.Prelude.{◌≡◌, ◌↔◌, ℕ, Bool, List, ◌++◌, take, Option, Result, IsErrOf, IsTrue, OnOk, OnErr}
use Rattle.std.specs.Io.KnownBytes.{Appends, Keeps}
use Rattle.devices.specs.declared.buffered.Buffered.{Buffered}
use Rattle.devices.specs.declared.fault.EngineFault.{EngineFault}
use Rattle.devices.specs.declared.fault.OutFault.{OutFault}
use Rattle.devices.specs.declared.fault.OutFault.TheVariants.{Write, Memory}
use Rattle.devices.specs.Watched.{FailsByWrites}

-- The bytes of a text in a buffer.
abbrev pub buffered_text : Buffered → List ℕ
buffered_text text = take text.len text.buffer.now

-- A prefix of the bytes was appended, perhaps an empty one.
abbrev pub AppendsFront : Option (List ℕ) → Option (List ℕ) → List ℕ → Type 0
AppendsFront old new bytes = (count : ℕ) × Appends old new (take count bytes)

-- The bytes that were appended, followed by those that wait, are the text.
abbrev pub IsWrittenSoFar : Option (List ℕ) → Option (List ℕ) → List ℕ → List ℕ → Type 0
IsWrittenSoFar old new waiting text = (sent : List ℕ) × Appends old new sent × (sent ++ waiting ≡ text)

-- A text was written whole, or else, if a write failed, a prefix of it. There is no other fault.
pub record SendsText {T : Type 0} (text : List ℕ) (before after : Option (List ℕ)) (failed : Bool)
    (result : Result T EngineFault) : Type 0 where
  pub ok : OnOk result (Appends before after text)
  pub front : OnErr result (AppendsFront before after text)
  pub fault : FailsByWrites result failed

-- A text was written up to the bytes that wait, which are its end, or else, if a write failed, a prefix of it.
-- There is no other fault.
pub record SendsSoFar {T : Type 0} (text waiting : List ℕ) (before after : Option (List ℕ)) (failed : Bool)
    (result : Result T EngineFault) : Type 0 where
  pub ok : OnOk result (IsWrittenSoFar before after waiting text)
  pub front : OnErr result (AppendsFront before after text)
  pub fault : FailsByWrites result failed

-- A text was written whole, or else, after Write, a prefix of it, and after Memory nothing. It is Write exactly if
-- a write failed.
pub record WritesText {T : Type 0} (text : List ℕ) (before after : Option (List ℕ)) (failed : Bool)
    (result : Result T OutFault) : Type 0 where
  pub ok : OnOk result (Appends before after text)
  pub front : IsErrOf result Write → AppendsFront before after text
  pub no_memory : IsErrOf result Memory → Keeps before after
  pub failed_is : IsErrOf result Write ↔ IsTrue failed
