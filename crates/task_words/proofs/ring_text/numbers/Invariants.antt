use Rattle.std.proofs.Common.{◌≡◌, map, All, take}
use Rattle.task_words.specs.Decimal.{IsNumber, number_in}
use Rattle.task_words.proofs.ring_text.numbers.Given as goal

abbrev pub invariant-loop-part : goal.invariant-loop-part
invariant-loop-part l = record {
  each : All (λ part. IsNumber part.now) (take l.part-index l.parts);
  values : l.numbers.items ≡ map (λ part. number_in part.now) (take l.part-index l.parts);
}
