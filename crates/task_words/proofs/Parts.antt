-- Facts of borrowed parts, lifted to the text that they are parts of.
use Rattle.std.proofs.Common.{◌≡◌, ℕ, ◌+◌, ◌<◌, List, [], ◌∷◌, ◌++◌, length, map, get_or, take, All, Bor, subst, sym}
use Rattle.std.proofs.Common.{ap, ◌∙◌, ◌↔◌, Result, Ok, Err, OnOk, IsOk, IsErrOf, inl, inr, refl}
use Rattle.std.proofs.lemmas.List.Elements.{All-map}
use Rattle.std.proofs.lemmas.List.{map_more, get_or-map, length-map}
use Rattle.std.proofs.lemmas.Simd.{map-map}
use Rattle.task_words.specs.Decimal.{IsNumber, number_in}
use Rattle.task_words.specs.RingText.{parts_of, IsRingText, ring_in}
use Rattle.task_words.specs.WordsFault.{FailsBy, MemoryAside}
use Rattle.task_words.specs.declared.words.WordsFault.{WordsFault}
use Rattle.task_words.specs.declared.words.WordsFault.TheVariants.{BadRing}

-- the values of the first i parts, followed by the next one
pub values_more : (parts : List (Bor (List ℕ))) (i number : ℕ) (d : Bor (List ℕ)) (before after : List ℕ)
    → i < length parts
    → before ≡ map (λ part. number_in part.now) (take i parts) → number ≡ number_in (get_or parts i d).now
    → after ≡ before ++ number ∷ []
    → after ≡ map (λ part. number_in part.now) (take (i + 1) parts)
values_more parts i number d before after within values read pushed =
    let more = map_more (λ (part : Bor (List ℕ)). number_in part.now) parts i d within in
    pushed ∙ ap (λ l. l ++ number ∷ []) values
    ∙ ap (λ n. map (λ part. number_in part.now) (take i parts) ++ n ∷ []) read ∙ sym more

-- parts that are all numbers make a ring text
pub ring_text_of_parts : (parts : List (Bor (List ℕ))) (text ring : List ℕ)
    → map (λ part. part.now) parts ≡ parts_of text
    → All (λ part. IsNumber part.now) parts × (ring ≡ map (λ part. number_in part.now) parts)
    → IsRingText text × (ring ≡ ring_in text)
ring_text_of_parts parts text ring same (each, values) = (
  subst (All IsNumber) same (All-map IsNumber (λ part. part.now) parts each),
  values ∙ sym (map-map number_in (λ part. part.now) parts) ∙ ap (map number_in) same,
)

-- the parts of a ring text are all numbers
pub parts_of_ring_text : (parts : List (Bor (List ℕ))) (text : List ℕ) → map (λ part. part.now) parts ≡ parts_of text
    → IsRingText text → All (λ part. IsNumber part.now) parts
parts_of_ring_text parts text same ring =
    let each : All IsNumber (map (λ part. part.now) parts) = subst (All IsNumber) (sym same) ring in
    λ k d within.
    let within' : k < length (map (λ part. part.now) parts) = simp length-map within in
    subst IsNumber (get_or-map (λ part. part.now) parts k d d.now within) (each k d.now within')

-- a result that is Ok only if P holds, and BadRing only if Q holds, decides which of them holds
pub decided : {T : Type 0} (r : Result T WordsFault) (P Q : Type 0) → (P → Q → ⊥) → OnOk r P → FailsBy r Q
    → MemoryAside r (IsOk r ↔ P) × MemoryAside r (IsErrOf r BadRing ↔ Q)
decided (Ok x) P Q apart good bad = (λ aside. (λ ok. good, λ p. refl), λ aside. (λ is. cc, λ q. absurd (apart good q)))
decided (Err e) P Q apart good (inl none) =
    (λ aside. absurd (aside (ap Err none)), λ aside. absurd (aside (ap Err none)))
decided (Err e) P Q apart good (inr (is, q)) =
    (λ aside. (λ ok. cc, λ p. absurd (apart p q)), λ aside. (λ _. q, λ _. ap Err is))
