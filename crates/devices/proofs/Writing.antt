-- What other crates cite of a text that is written through a chunk: which part of it was written, and which part
-- waits. Of the files here they import this one alone.
use Rattle.std.proofs.Common.{◌≡◌, Option, List, ◌++◌, OnErr}
use Rattle.std.specs.Prelude.{ℕ, Bool, Result}
use Rattle.devices.specs.declared.fault.EngineFault.{EngineFault}
use Rattle.devices.specs.Output.{AppendsFront, IsWrittenSoFar, SendsText}
use Rattle.devices.proofs.Known
use Rattle.devices.proofs.WrittenChunks

-- at first nothing was written, and what waits is the text so far
pub tells_none : (a : Option (List ℕ)) (waiting : List ℕ) → IsWrittenSoFar a a waiting waiting
tells_none = WrittenChunks.tells_none

-- one more piece waits
pub tells_more :
    (a b : Option (List ℕ)) (waiting more piece text : List ℕ) → IsWrittenSoFar a b waiting text
    → more ≡ waiting ++ piece → IsWrittenSoFar a b more (text ++ piece)
tells_more = WrittenChunks.tells_more

-- of the bytes that wait, some are written
pub tells_moved : (a b c : Option (List ℕ)) (waiting left text : List ℕ) → IsWrittenSoFar a b waiting text
    → IsWrittenSoFar b c left waiting → IsWrittenSoFar a c left text
tells_moved = WrittenChunks.tells_moved

-- a prefix of the bytes that wait was written, so a prefix of every text that begins with the text so far
pub tells_front :
    (a b c : Option (List ℕ)) (waiting text whole rest : List ℕ) → IsWrittenSoFar a b waiting text
    → AppendsFront b c waiting → text ++ rest ≡ whole → AppendsFront a c whole
tells_front = WrittenChunks.tells_front

-- the bytes that wait are sent, so the whole text is
pub sends_all :
    {T : Type 0} (a b c : Option (List ℕ)) (waiting text : List ℕ) (failed : Bool) (r : Result T EngineFault)
    → IsWrittenSoFar a b waiting text
    → SendsText waiting b c failed r → SendsText text a c failed r
sends_all a b c waiting text failed r told sent = WrittenChunks.sends_all a b c waiting text failed r told sent

-- what holds, holds if a call failed
pub on_err : {T E P : Type 0} (r : Result T E) → P → OnErr r P
on_err r holds = Known.on_err r holds
