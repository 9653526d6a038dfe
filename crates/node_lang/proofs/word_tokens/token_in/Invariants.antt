use Rattle.std.proofs.Common.{◌≡◌, drop}
use Rattle.node_lang.specs.Words.{token_in}
use Rattle.node_lang.proofs.word_tokens.token_in.Given as goal

-- no row so far has the word
abbrev pub invariant-rows : goal.invariant-rows
invariant-rows l = token_in (drop l.row-index l.rows) l.word ≡ token_in l.rows l.word
