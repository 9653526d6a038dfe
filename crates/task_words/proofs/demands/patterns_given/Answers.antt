use Rattle.std.proofs.Common.{◌≡◌, ap, sym, subst, None, OnOk, IfOk, IfErr}
use Rattle.clap.specs.Words.{found_of}
use Rattle.task_words.specs.DemandValues.{ArePatternsOf, patterns_fault}
use Rattle.task_words.specs.WordsFault.{IsDemandRefusal}
use Rattle.task_words.proofs.DemandLemmas.{no_patterns, no_texts_given, texts_given}
use Rattle.task_words.proofs.demands.patterns_given.Goals as goal

pub returns-in-Some-clause-patterns : goal.returns-in-Some-clause-patterns
returns-in-Some-clause-patterns c =
    subst (λ texts. IfOk c.patterns_of.result (λ patterns. ArePatternsOf texts patterns.items))
    (sym (texts_given (found_of c.args.options.now) _ c.in-Some.ensures)) c.patterns_of.ensures.patterns

pub returns-in-Some-clause-good : goal.returns-in-Some-clause-good
returns-in-Some-clause-good c =
    subst (λ texts. OnOk c.patterns_of.result (patterns_fault texts ≡ None))
    (sym (texts_given (found_of c.args.options.now) _ c.in-Some.ensures)) c.patterns_of.ensures.good

pub returns-in-Some-clause-refused : goal.returns-in-Some-clause-refused
returns-in-Some-clause-refused c =
    subst (λ texts. IfErr c.patterns_of.result (IsDemandRefusal (patterns_fault texts)))
    (sym (texts_given (found_of c.args.options.now) _ c.in-Some.ensures)) c.patterns_of.ensures.refused

pub returns-in-None-clause-patterns : goal.returns-in-None-clause-patterns
returns-in-None-clause-patterns c =
    no_patterns _ c.new.result.items (no_texts_given (found_of c.args.options.now) c.in-None.ensures)
    c.new.ensures.items

pub returns-in-None-clause-good : goal.returns-in-None-clause-good
returns-in-None-clause-good c = ap patterns_fault (no_texts_given (found_of c.args.options.now) c.in-None.ensures)
