use Rattle.std.proofs.Common.{◌≡◌, string_bytes, take}
use Rattle.ring_problems.specs.PatternTexts.{patterns_text}
use Rattle.ring_problems.proofs.pattern_text.patterns_text.Given as goal

-- the patterns so far are in the text
abbrev pub invariant-loop-pattern : goal.invariant-loop-pattern
invariant-loop-pattern l = string_bytes l.text ≡ patterns_text (take l.pattern-index l.patterns)
