use Rattle.std.proofs.Common.{◌≡◌, map, drop}
use Rattle.std.specs.Prelude.{IsUtf8, string_bytes}
use Rattle.task_words.specs.RingTips as texts
use Rattle.task_words.proofs.ring_tips.ring_word.Given as goal

abbrev pub invariant-loop-word : goal.invariant-loop-word
invariant-loop-word l = record {
  rest : texts.ring_word (map string_bytes l.words)
      ≡ texts.ring_after l.last (map string_bytes (drop l.word-index l.words));
  last : IsUtf8 l.last;
}
