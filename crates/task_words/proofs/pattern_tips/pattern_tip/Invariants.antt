use Rattle.std.proofs.Common.{◌≡◌, map, drop}
use Rattle.std.specs.Prelude.{IsUtf8, string_bytes}
use Rattle.task_words.specs.PatternTips as texts
use Rattle.task_words.proofs.pattern_tips.pattern_tip.Given as goal

abbrev pub invariant-loop-word : goal.invariant-loop-word
invariant-loop-word l = record {
  rest : texts.pattern_tip (map string_bytes l.words)
      ≡ texts.tip_after l.last (map string_bytes (drop l.word-index l.words));
  last : IsUtf8 l.last;
}
