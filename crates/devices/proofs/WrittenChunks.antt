-- The bytes of a writer, and those that wait in a chunk.
use Rattle.std.proofs.Common.{◌≡◌, ℕ, ◌+◌, ◌≤◌, List, [], ◌++◌, length, take, drop, arith, Option, subst, refl, sym, ap}
use Rattle.std.proofs.Common.{◌∙◌, append-nil, append_assoc}
use Rattle.std.specs.Prelude.{Bool, Result}
use Rattle.std.proofs.Math.Seq.{take-append-add, take-append_seam}
use Rattle.std.proofs.lemmas.List.{take-append-le, take-append-drop, length-take, length-take-le}
use Rattle.std.proofs.lemmas.Result.{on_err_weaker, on_ok_weaker}
use Rattle.std.proofs.KnownBytes.{Appends-nil, Appends-trans}
use Rattle.std.specs.Io.KnownBytes.{Appends}
use Rattle.devices.specs.declared.fault.EngineFault.{EngineFault}
use Rattle.devices.specs.Output.{AppendsFront, IsWrittenSoFar, SendsText}

-- one more piece in the chunk
pub tells_more :
    (a b : Option (List ℕ)) (waiting more piece text : List ℕ) → IsWrittenSoFar a b waiting text
    → more ≡ waiting ++ piece → IsWrittenSoFar a b more (text ++ piece)
tells_more a b waiting more piece text told longer = (
  told.0,
  told.1,
  ap (λ w. told.0 ++ w) longer ∙ sym (append_assoc told.0 waiting piece)
      ∙ ap (λ t. t ++ piece) told.2,
)

-- the contents of the chunk are written
pub tells_all : (a b c : Option (List ℕ)) (waiting text : List ℕ) → IsWrittenSoFar a b waiting text
    → Appends b c waiting → Appends a c text
tells_all a b c waiting text told sent = subst (Appends a c) told.2 (Appends-trans a b c told.0 waiting told.1 sent)

-- of those that wait, some are written
pub tells_moved : (a b c : Option (List ℕ)) (waiting left text : List ℕ) → IsWrittenSoFar a b waiting text
    → IsWrittenSoFar b c left waiting → IsWrittenSoFar a c left text
tells_moved a b c waiting left text told moved = (
  told.0 ++ moved.0,
  Appends-trans a b c told.0 moved.0 told.1 moved.1,
  append_assoc told.0 moved.0 left
      ∙ ap (λ t. told.0 ++ t) moved.2 ∙ told.2,
)

-- nothing was written yet
pub tells_none : (a : Option (List ℕ)) (waiting : List ℕ) → IsWrittenSoFar a a waiting waiting
tells_none a waiting = ([], Appends-nil a, refl)

-- a prefix is taken by its own length
front_is : (n : ℕ) (xs : List ℕ) → take (length (take n xs)) xs ≡ take n xs
front_is n xs = ap (take (length (take n xs))) (sym (take-append-drop n xs)) ∙ take-append_seam (take n xs) (drop n xs)

-- a prefix of the chunk was written, so a prefix of every text that begins with the text so far
pub tells_front :
    (a b c : Option (List ℕ)) (waiting text whole rest : List ℕ) → IsWrittenSoFar a b waiting text
    → AppendsFront b c waiting → text ++ rest ≡ whole → AppendsFront a c whole
tells_front a b c waiting text whole rest told failed longer =
    let count = failed.0 in
    let k = length (take count waiting) in
    let short : k ≤ length waiting = omega (arith, length-take count waiting) in
    let begins : whole ≡ told.0 ++ (waiting ++ rest) =
    sym (sym (append_assoc told.0 waiting rest) ∙ ap (λ t. t ++ rest) told.2 ∙ longer) in
    let front : take (length told.0 + k) whole ≡ told.0 ++ take count waiting =
    ap (take (length told.0 + k)) begins ∙ take-append-add told.0 (waiting ++ rest) k
    ∙ ap (λ t. told.0 ++ t) (take-append-le k waiting rest short ∙ front_is count waiting) in
    (length told.0 + k, subst (Appends a c) (sym front) (Appends-trans a b c told.0 (take count waiting) told.1 failed.1))

-- the bytes that wait are sent, so the whole text is
pub sends_all :
    {T : Type 0} (a b c : Option (List ℕ)) (waiting text : List ℕ) (failed : Bool) (r : Result T EngineFault)
    → IsWrittenSoFar a b waiting text
    → SendsText waiting b c failed r → SendsText text a c failed r
sends_all a b c waiting text failed r told sent = record {
  ok = on_ok_weaker r (tells_all a b c waiting text told) sent.ok;
  front = on_err_weaker r (λ front. tells_front a b c waiting text text [] told front (append-nil text)) sent.front;
  fault = sent.fault;
}

-- a piece was written over the items from an index on
pub put_front :
    (start n : ℕ) (xs piece rest : List ℕ) → start ≤ length xs → n ≤ length piece
    → take (start + n) (take start xs ++ (piece ++ rest)) ≡ take start xs ++ take n piece
put_front start n xs piece rest within le =
    let long : length (take start xs) ≡ start = length-take-le start xs within in
    ap (λ k. take (k + n) (take start xs ++ (piece ++ rest))) (sym long)
    ∙ take-append-add (take start xs) (piece ++ rest) n
    ∙ ap (λ t. take start xs ++ t) (take-append-le n piece rest le)
