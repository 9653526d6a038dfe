-- A reader or a writer with the count of its calls, and a note of the failure of one.
use Rattle.std.specs.Prelude.{◌≡◌, ℕ, ◌+◌, ◌-◌, ◌^◌, min, ◌⊎◌, ◌↔◌, ◌==◌, ◌&&◌, Bool, true, nat_lt, List, length}
use Rattle.std.specs.Prelude.{if◌then◌else◌, Option, is_some, Result, Ok, Err, IfErr, IsErrOf, IsTrue, MatchResult}
use Rattle.std.specs.Result.{result_err, result_map_both}
use Rattle.std.specs.IoError.{error_kind}
use Rattle.std.specs.declared.io.Error.{Error}
use Rattle.std.specs.declared.io.ErrorKind.{ErrorKind}
use Rattle.std.specs.declared.io.ErrorKind.TheVariants.{WriteZero}
use Rattle.devices.specs.declared.fault.EngineFault.{EngineFault}
use Rattle.devices.specs.declared.fault.EngineFault.TheVariants.{Read, Write, Memory}
use Rattle.devices.specs.declared.watched.Watched.{Watched}

-- the reader or the writer itself
abbrev pub device_of : {D : Type 0} → Watched D → D
device_of watched = watched.device

-- the kind of the error with which a read or a write of it failed, if one did
abbrev pub failure_of : {D : Type 0} → Watched D → Option ErrorKind
failure_of watched = watched.failure

-- whether a read or a write of it failed
abbrev pub has_failed : {D : Type 0} → Watched D → Bool
has_failed watched = is_some (failure_of watched)

-- how many reads and writes it was asked for; the count stops at the greatest `usize`
abbrev pub calls_of : {D : Type 0} → Watched D → ℕ
calls_of watched = watched.calls

-- the number of bytes that a device answers to a call that offered it these bytes, or the kind of its failure: that
-- of its error, or `WriteZero` if it took none of the bytes
abbrev pub outcome_of : List ℕ → Result ℕ Error → Result ℕ ErrorKind
outcome_of offered (Ok count) = if count == 0 && nat_lt 0 (length offered) then Err WriteZero else Ok count
outcome_of offered (Err error) = Err (error_kind error)

-- a call with this outcome is noted: it is counted, its failure is the note, and the result is its number of bytes
-- or this fault
pub record IsNoted {D : Type 0} (outcome : Result ℕ ErrorKind) (fault : EngineFault) (old new : Watched D)
    (result : Result ℕ EngineFault) : Type 0 where
  pub result_is : result ≡ result_map_both (λ count. count) (λ _. fault) outcome
  pub failure_is : failure_of new ≡ result_err outcome
  pub counted : calls_of new ≡ min (calls_of old + 1) (2 ^ 64 - 1)
  pub kept : device_of new ≡ device_of old

-- a failed call is noted, and any other leaves the note as it was
abbrev pub Notes : {T E : Type 0} → Result T E → Option ErrorKind → Option ErrorKind → Type 0
Notes result old new = MatchResult result (λ _. new ≡ old) (λ _. is_some new ≡ true)

-- a call of the device: it is counted, and if it fails, its fault is this one, and it is noted
pub record IsCall {D T : Type 0} (fault : EngineFault) (old new : Watched D)
    (result : Result T EngineFault) : Type 0 where
  pub fault_is : IfErr result (λ f. f ≡ fault)
  pub noted : Notes result (failure_of old) (failure_of new)
  pub counted : calls_of new ≡ min (calls_of old + 1) (2 ^ 64 - 1)

-- the only faults are a failed read and refused memory, and a read failed exactly if the fault is that
pub record FailsByReadOrMemory {T : Type 0} (result : Result T EngineFault) (failed : Bool) : Type 0 where
  pub fault_is : IfErr result (λ fault. (fault ≡ Read) ⊎ (fault ≡ Memory))
  pub failed_is : IsErrOf result Read ↔ IsTrue failed

-- the only fault is a failed write, and a write failed exactly if there is a fault
pub record FailsByWrites {T : Type 0} (result : Result T EngineFault) (failed : Bool) : Type 0 where
  pub fault_is : IfErr result (λ fault. fault ≡ Write)
  pub failed_is : IsErrOf result Write ↔ IsTrue failed
