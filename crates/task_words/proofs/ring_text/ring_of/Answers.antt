use Rattle.std.proofs.Common.{◌≡◌, map, ap, ◌∙◌, inl, inr, OnOk, rules}
use Rattle.std.proofs.lemmas.Result.{IfOk-weaker, IfErr-weaker}
use Rattle.task_words.specs.RingText.{parts_of, IsRingText}
use Rattle.task_words.specs.WordsFault.{FailsBy}
use Rattle.task_words.proofs.Parts.{ring_text_of_parts, parts_of_ring_text, decided}
use Rattle.task_words.proofs.ring_text.ring_of.Goals as goal

-- The parts that were read are those of the text.
pub returns : goal.returns
returns c =
    let same : map (λ part. part.now) c.deref.result.now ≡ parts_of c.args.text.now =
    ap (map (λ part. part.now)) c.deref.ensures.value ∙ c.in_ok-parts.ensures in
    let ring = IfOk-weaker c.numbers.result _ _
    (λ ring. ring_text_of_parts c.deref.result.now c.args.text.now ring.items same) c.numbers.ensures.numbers in
    let good : OnOk c.numbers.result (IsRingText c.args.text.now) =
    IfOk-weaker c.numbers.result _ _ (λ ring both. both.0) ring in
    let bad : FailsBy c.numbers.result (¬ IsRingText c.args.text.now) =
    IfErr-weaker c.numbers.result _ _ (λ fault refused. elim refused [
      | inl none ↦ inl none
      | inr bad ↦ inr (bad.0, λ ring. bad.1 (parts_of_ring_text c.deref.result.now c.args.text.now same ring))
    ]) c.numbers.ensures.refused in
    let told = decided c.numbers.result (IsRingText c.args.text.now) (¬ IsRingText c.args.text.now)
    (λ ring bad. bad ring) good bad in
    record {
      ring = ring;
      ok = told.0;
      bad_ring = told.1;
      faults = search rules;
    }
