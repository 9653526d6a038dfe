use Rattle.std.proofs.Common.{◌∙◌, ap, sym, length}
use Rattle.std.specs.Prelude.{nat_lt}
use Rattle.std.proofs.lemmas.List.{length-map}
use Rattle.clap.specs.Words.{found_of}
use Rattle.task_words.proofs.DemandLemmas.{no_texts_given, texts_given}
use Rattle.task_words.proofs.demands.has_patterns.Goals as goal

pub returns-in-Some : goal.returns-in-Some
returns-in-Some c = ap (nat_lt 0) (sym (length-map c.in-Some.texts.now _)
    ∙ ap length (sym (texts_given (found_of c.args.options.now) _ c.in-Some.ensures)))

pub returns-in-None : goal.returns-in-None
returns-in-None c = ap (λ texts. nat_lt 0 (length texts))
    (sym (no_texts_given (found_of c.args.options.now) c.in-None.ensures))
