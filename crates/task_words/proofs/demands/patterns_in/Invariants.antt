use Rattle.std.proofs.Common.{◌≡◌, map, take}
use Rattle.task_words.specs.PatternText.{pattern_in}
use Rattle.task_words.proofs.DemandLemmas.{HaveNoFault}
use Rattle.task_words.proofs.demands.patterns_in.Given as goal

-- the texts so far are pattern texts, and these are their patterns
abbrev pub invariant-loop-text : goal.invariant-loop-text
invariant-loop-text l = record {
  none : HaveNoFault (take l.text-index l.texts);
  values : l.patterns.items ≡ map (λ text. pattern_in text.now) (take l.text-index l.texts);
}
