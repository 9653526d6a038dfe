use Rattle.std.proofs.Common.{◌∙◌, ap, map, string_bytes}
use Rattle.clap.specs.Words.{found_of, rows_of}
use Rattle.task_words.proofs.Calls.{call_is, met_of, request_is}
use Rattle.task_words.proofs.GivenOptions.{command_given, no_format_given, some_command}
use Rattle.task_words.specs.Words.{IsCallOf}
use Rattle.task_words.proofs.words.request_of.Goals.{Joined-matches}
use Rattle.task_words.proofs.words.request_of.Goals as goal

pub request-requires : goal.request-requires
request-requires c = record {
  one =
      command_given (map string_bytes c.args.words.now) c.in-Some.name.now (rows_of (found_of c.in-Some.options.now)) c.in_ok-matches.ensures.taken
      (call_is (map string_bytes c.args.words.now) c.in_ok-matches.matches c.subcommand.result c.subcommand.ensures.name c.subcommand.ensures.rows c.in_ok-matches.ensures.rows ∙ ap met_of c.in-Some.is);
}

pub unreachable-requires : goal.unreachable-requires
unreachable-requires c =
    some_command (map string_bytes c.args.words.now) c.in_ok-matches.ensures.taken
    (call_is (map string_bytes c.args.words.now) c.in_ok-matches.matches c.subcommand.result
    c.subcommand.ensures.name c.subcommand.ensures.rows c.in_ok-matches.ensures.rows ∙ ap met_of c.in-None.is)

-- the call that was parsed
call : (c : Joined-matches)
    → IsCallOf (map string_bytes c.args.words.now) c.in-Some.name.now (rows_of (found_of c.in-Some.options.now))
call c =
    call_is (map string_bytes c.args.words.now) c.in_ok-matches.matches c.subcommand.result c.subcommand.ensures.name c.subcommand.ensures.rows c.in_ok-matches.ensures.rows ∙ ap met_of c.in-Some.is

pub returns : goal.returns
returns c =
    let ensured = c.request.ensures in
    request_is c.request.result (map string_bytes c.args.words.now) c.in-Some.name.now
    (rows_of (found_of c.in-Some.options.now)) c.in_ok-matches.ensures.taken (call c)
    (no_format_given (map string_bytes c.args.words.now) c.in-Some.name.now (rows_of (found_of c.in-Some.options.now)) c.in_ok-matches.ensures.taken (call c))
    ensured.task ensured.range ensured.format ensured.good ensured.refused
