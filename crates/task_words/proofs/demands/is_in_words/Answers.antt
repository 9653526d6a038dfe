use Rattle.std.proofs.Common.{◌∙◌, ap}
use Rattle.clap.specs.Words.{found_of}
use Rattle.task_words.specs.DemandValues.{is_from_words}
use Rattle.task_words.proofs.DemandLemmas.{source-rows}
use Rattle.task_words.proofs.demands.is_in_words.Goals as goal

pub returns : goal.returns
returns c = c.is_from_words.ensures
    ∙ ap is_from_words (c.value_source.ensures ∙ source-rows (found_of c.args.options.now) c.args.name.now)
