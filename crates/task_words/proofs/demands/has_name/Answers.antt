use Rattle.std.proofs.Common.{◌∙◌, ap, sym}
use Rattle.std.specs.Prelude.{is_some}
use Rattle.clap.specs.Words.{found_of}
use Rattle.task_words.proofs.DemandLemmas.{is_some-map, name_given}
use Rattle.task_words.proofs.demands.has_name.Goals as goal

pub returns : goal.returns
returns c = c.is_some.ensures
    ∙ (is_some-map (λ text. text.now) c.get_str.result
    ∙ ap is_some (sym (name_given (found_of c.args.options.now) _ c.get_str.ensures)))
