use Rattle.std.proofs.Common.{◌∙◌, ap, sym, refl, inr, Some, None}
use Rattle.std.specs.Option.{option_and_then}
use Rattle.clap.specs.Words.{found_of}
use Rattle.task_words.specs.DemandValues.{known_problem, name_fault}
use Rattle.task_words.proofs.DemandLemmas.{name_given, named_badly, named_well}
use Rattle.task_words.proofs.demands.problem_named.Goals as goal

pub returns-in_default-clause-known : goal.returns-in_default-clause-known
returns-in_default-clause-known c =
    ap (option_and_then known_problem) (sym (name_given (found_of c.args.options.now) None c.in_default.ensures))

pub returns-in_default-clause-good : goal.returns-in_default-clause-good
returns-in_default-clause-good c = ap name_fault (name_given (found_of c.args.options.now) None c.in_default.ensures)

pub returns-in-Some-known_problem-clause-known : goal.returns-in-Some-known_problem-clause-known
returns-in-Some-known_problem-clause-known c =
    c.in-Some-known_problem.ensures
    ∙ ap (option_and_then known_problem)
    (sym (name_given (found_of c.args.options.now) (Some c.in-Some.name.now) c.in-Some.ensures))

pub returns-in-Some-known_problem-clause-good : goal.returns-in-Some-known_problem-clause-good
returns-in-Some-known_problem-clause-good c =
    named_well _ c.in-Some.name.now
    (name_given (found_of c.args.options.now) (Some c.in-Some.name.now) c.in-Some.ensures)
    c.in-Some-known_problem.known c.in-Some-known_problem.ensures

pub returns-in-None-clause-refused : goal.returns-in-None-clause-refused
returns-in-None-clause-refused c =
    inr (_, refl, named_badly _ c.in-Some.name.now (name_given (found_of c.args.options.now) (Some c.in-Some.name.now) c.in-Some.ensures) c.in-None.ensures)
