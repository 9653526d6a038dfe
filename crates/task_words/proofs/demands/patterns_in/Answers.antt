use Rattle.std.proofs.Common.{◌≡◌, ◌∙◌, ap, subst, arith, inl, inr, map, take, None}
use Rattle.std.proofs.lemmas.List.{take_all}
use Rattle.std.proofs.lemmas.List.Elements.{All-more}
use Rattle.task_words.specs.PatternText.{pattern_fault, pattern_in}
use Rattle.task_words.proofs.DemandLemmas.{HaveNoFault, are_patterns, first_fault, no_first_fault, patterns_more}
use Rattle.task_words.proofs.demands.patterns_in.Goals as goal

-- A text with a fault is the first one.
pub returns-in-Err-clause-refused : goal.returns-in-Err-clause-refused
returns-in-Err-clause-refused c = elim c.in-Err.ensures.refused [
  | inl memory ↦ inl memory
  | inr (known, is, cause) ↦ inr (
    known,
    is,
    first_fault c.args.texts.now c.loop-text.text-index _ known c.loop-text-test.true
        c.loop-text.invariant.none cause,
  )
]

-- One more pattern was read.
pub loop-text-preserved : goal.loop-text-preserved
loop-text-preserved c = record {
  none = All-more (λ text. pattern_fault text.now ≡ None) c.args.texts.now c.loop-text.text-index _ c.loop-text-test.true c.loop-text.invariant.none c.in-Ok.ensures.good;
  values = patterns_more c.args.texts.now c.loop-text.text-index _ _ _ _ c.loop-text-test.true c.loop-text.invariant.values c.in-Ok.ensures.pattern.1 c.in_ok-push.ensures.items;
}

-- All texts were read.
pub returns-clause-patterns : goal.returns-clause-patterns
returns-clause-patterns c =
    let whole : take c.loop-text.text-index c.args.texts.now ≡ c.args.texts.now =
    take_all c.loop-text.text-index c.args.texts.now (omega (arith, c.loop-text-test.false)) in
    are_patterns c.args.texts.now c.loop-text.patterns.items (subst HaveNoFault whole c.loop-text.invariant.none)
    (c.loop-text.invariant.values ∙ ap (map (λ text. pattern_in text.now)) whole)

pub returns-clause-good : goal.returns-clause-good
returns-clause-good c =
    let whole : take c.loop-text.text-index c.args.texts.now ≡ c.args.texts.now =
    take_all c.loop-text.text-index c.args.texts.now (omega (arith, c.loop-text-test.false)) in
    no_first_fault c.args.texts.now (subst HaveNoFault whole c.loop-text.invariant.none)
