use Rattle.std.proofs.Common.{◌≡◌, drop, rules}
use Rattle.node_program.specs.Term.{program_tree}
use Rattle.node_lang.specs.Reading.{Got, program}
use Rattle.node_lang.specs.Lexemes.{lexemes_from}
use Rattle.node_lang.proofs.SmallTokens.{small_tokens}
use Rattle.node_lang.proofs.Judging.{read_is_spelt}
use Rattle.node_lang.proofs.parser.Parser.whole.Goals as goal

pub new-requires : goal.new-requires
unfolding program
new-requires c =
    let s = c.args.self.now in
    let p = program_tree c.in_ok-header.header.channels c.in_ok-start.start.items c.in_ok-steps.steps.items
    c.in_ok-finish.finish in
    let read : program s.nodes (lexemes_from s.text.now s.at)
    ≡ Got p c.end.new.self.nodes (lexemes_from s.text.now c.end.new.self.at) = search rules in
    (read_is_spelt p s.nodes _ (lexemes_from s.text.now s.at) _ (small_tokens (drop s.at s.text.now)) read).limits
