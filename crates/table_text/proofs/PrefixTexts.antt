-- The texts of the first identifiers of a prefix, with one identifier more.
use Rattle.std.proofs.Common.{◌≡◌, ℕ, ◌+◌, ◌*◌, ◌<◌, ◌≤◌, List, [], length, get_or, take, set, sym, ap, ◌∙◌}
use Rattle.std.proofs.Common.{arith, ⊎_elim}
use Rattle.std.proofs.lemmas.Bool.{cases_lt}
use Rattle.std.proofs.lemmas.List.{get_or-set_same, get_or-set_other, length-set, length-take-le, take-take}
use Rattle.table_text.specs.TableText.{ids_then}
use Rattle.table_text.specs.Prefixes.{HasTexts}

-- writing from the end of some identifiers' text on leaves that of the first ones
pub same_front : (bytes ends new_bytes ids : List ℕ) (place i : ℕ) → HasTexts bytes ends ids → i ≤ place →
    place ≤ length ids
    → take (get_or ends place 0) new_bytes ≡ take (get_or ends place 0) bytes →
    take (get_or ends i 0) new_bytes ≡ take (get_or ends i 0) bytes
same_front bytes ends new_bytes ids place i has le within same =
    let before = has.rises i place le within in
    sym (take-take (get_or ends i 0) (get_or ends place 0) new_bytes before) ∙ ap (take (get_or ends i 0)) same
    ∙ take-take (get_or ends i 0) (get_or ends place 0) bytes before

-- the text of one identifier more is written after the others, which stay
pub record IsMore (bytes ends new_bytes new_ends ids : List ℕ) (place end : ℕ) : Type 0 where
  pub within : place < length ids
  pub room : place + 1 < length ends
  pub set_is : new_ends ≡ set ends (place + 1) end
  pub later : get_or ends place 0 ≤ end
  pub few : end ≤ 8 * (place + 1)
  pub same : (i : ℕ) → i ≤ place → take (get_or ends i 0) new_bytes ≡ take (get_or ends i 0) bytes
  pub text : take end new_bytes ≡ ids_then (take (place + 1) ids) []

pub texts_more : (bytes ends new_bytes new_ends ids : List ℕ) (place end : ℕ) → HasTexts bytes ends (take place ids)
    → IsMore bytes ends new_bytes new_ends ids place end → HasTexts new_bytes new_ends (take (place + 1) ids)
texts_more bytes ends new_bytes new_ends ids place end has more =
    let within = more.within in
    let size = length-take-le place ids (omega (arith, more.within)) in
    let longer = length-take-le (place + 1) ids (omega (arith, more.within)) in
    let before : (i : ℕ) → i ≤ place → get_or new_ends i 0 ≡ get_or ends i 0 = λ i le.
    ap (λ l. get_or l i 0) more.set_is
    ∙ get_or-set_other ends (place + 1) i end 0 (λ (e : i ≡ place + 1). absurd (omega arith)) in
    let here : get_or new_ends (place + 1) 0 ≡ end =
    ap (λ l. get_or l (place + 1) 0) more.set_is ∙ get_or-set_same ends (place + 1) end 0 more.room in
    record {
      room = ap length more.set_is ∙ length-set ends (place + 1) end ∙ has.room;
      each = λ i le.
          ⊎_elim
          (λ (lt : i < place + 1).
          ap (λ e. take e new_bytes) (before i (omega arith)) ∙ more.same i (omega arith) ∙ has.each i (omega arith)
          ∙ ap (λ l. ids_then l [])
          (take-take i place ids (omega arith) ∙ sym (take-take i (place + 1) ids (omega arith))))
          (λ (ge : place + 1 ≤ i).
          let same : i ≡ place + 1 = omega arith in
          rw same (ap (λ e. take e new_bytes) here ∙ more.text
          ∙ ap (λ l. ids_then l []) (sym (take-take (place + 1) (place + 1) ids (omega arith)))))
          (cases_lt i (place + 1));
      few = λ i le.
          ⊎_elim
          (λ (lt : i < place + 1). omega (arith, before i (omega arith), has.few i (omega arith)))
          (λ (ge : place + 1 ≤ i).
          let same : i ≡ place + 1 = omega arith in
          rw same (omega (arith, here, more.few)))
          (cases_lt i (place + 1));
      rises = λ i j le within'.
          ⊎_elim
          (λ (lt : j < place + 1).
          omega (arith, before i (omega arith), before j (omega arith), has.rises i j le (omega arith)))
          (λ (ge : place + 1 ≤ j).
          let same : j ≡ place + 1 = omega arith in
          ⊎_elim
          (λ (less : i < place + 1). rw same
          (omega (arith, here, before i (omega arith), has.rises i place (omega arith) (omega arith), more.later)))
          (λ (all : place + 1 ≤ i).
          let own : i ≡ j = omega arith in
          rw own (omega arith))
          (cases_lt i (place + 1)))
          (cases_lt j (place + 1));
    }

-- the texts of the first identifiers
pub texts_front : (bytes ends ids : List ℕ) (n : ℕ) → HasTexts bytes ends ids → n ≤ length ids →
    HasTexts bytes ends (take n ids)
texts_front bytes ends ids n has le =
    let size = length-take-le n ids le in
    record {
      room = has.room;
      each = λ i within. has.each i (omega (arith, size))
          ∙ ap (λ l. ids_then l []) (sym (take-take i n ids (omega (arith, size))));
      few = λ i within. has.few i (omega (arith, size));
      rises = λ i j less within. has.rises i j less (omega (arith, size));
    }
