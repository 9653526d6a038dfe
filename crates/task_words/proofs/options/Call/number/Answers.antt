use Rattle.std.proofs.Common.{◌≡◌, ℕ, Some, arith, subst}
use Rattle.clap.specs.Words.{found_of, rows_of}
use Rattle.task_words.specs.Options.{IsBetween}
use Rattle.task_words.specs.Words.{HasNumber}
use Rattle.task_words.proofs.GivenOptions.{number_given, number_read}
use Rattle.task_words.proofs.options.Call.number.Goals.{After-get_one}
use Rattle.task_words.proofs.options.Call.number.Goals as goal

-- the number that was read
read : (c : After-get_one)
    → (n : ℕ) × (c.get_one.result ≡ Some n)
    × HasNumber (rows_of (found_of c.args.self.now.options.now)) c.args.option.now.name.now n
    × IsBetween c.args.option.now.values n
read c = number_read (found_of c.args.self.now.options.now) c.args.option.now c.get_one.result c.get_one.ensures.value
    (number_given c.args.option.now c.args.self.now.name.now (rows_of (found_of c.args.self.now.options.now)) c.requires.given.one c.requires.taken)

pub unreachable-requires : goal.unreachable-requires
unreachable-requires c =
    let found = read (goal.at.unreachable-requires c).After-get_one in c.in_default.not-Some found.0 found.1

pub returns : goal.returns
returns c =
    let found = read (goal.at.returns c).After-get_one in
    let same : found.0 ≡ c.in-Some.number = grind arith in
    record {
      number = subst (HasNumber (rows_of (found_of c.args.self.now.options.now)) c.args.option.now.name.now) same found.2;
      range = subst (IsBetween c.args.option.now.values) same found.3;
    }
