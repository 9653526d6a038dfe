use Rattle.std.proofs.Common.{◌≡◌, ◌∙◌, ap, sym, refl, map}
use Rattle.task_words.specs.PatternText.{parts_fault, pattern_of_parts}
use Rattle.task_words.specs.RingText.{parts_of}
use Rattle.task_words.proofs.Entries.{no_pattern_text, pattern_text_is}
use Rattle.task_words.proofs.pattern_text.pattern_of.Goals as goal

-- The parts that were read are those of the text.
pub returns-in-Ok-clause-pattern : goal.returns-in-Ok-clause-pattern
returns-in-Ok-clause-pattern c =
    let same : map (λ part. part.now) c.deref.result.now ≡ parts_of c.args.text.now =
    ap (map (λ part. part.now)) c.deref.ensures.value ∙ c.in_ok-parts.ensures in (
      pattern_text_is c.args.text.now (ap parts_fault (sym same) ∙ c.in-Ok.ensures.good),
      c.in-Ok.ensures.pattern
          ∙ ap pattern_of_parts same,
    )

pub returns-in-Ok-clause-ok : goal.returns-in-Ok-clause-ok
returns-in-Ok-clause-ok c aside =
    let same : map (λ part. part.now) c.deref.result.now ≡ parts_of c.args.text.now =
    ap (map (λ part. part.now)) c.deref.ensures.value ∙ c.in_ok-parts.ensures in
    (λ ok. pattern_text_is c.args.text.now (ap parts_fault (sym same) ∙ c.in-Ok.ensures.good), λ is. refl)

pub returns-clause-ok : goal.returns-clause-ok
returns-clause-ok c aside =
    let same : map (λ part. part.now) c.deref.result.now ≡ parts_of c.args.text.now =
    ap (map (λ part. part.now)) c.deref.ensures.value ∙ c.in_ok-parts.ensures in
    (λ bad. cc, λ is. absurd (no_pattern_text c.args.text.now _ (ap parts_fault (sym same) ∙ c.in-Err.ensures.bad) is))
