use Rattle.std.proofs.Common.{◌≡◌, ◌≤◌, ◌-◌, length}
use Rattle.node_lang.specs.Lexemes.{lexemes_from}
use Rattle.fault_notes.specs.FaultTokens.{offset_of_cause}
use Rattle.fault_notes.specs.CauseTokens.{cause_from, offset_from}
use Rattle.fault_notes.proofs.cause_tokens.offset_of_cause.Given as goal

-- the first cause is not before this offset
abbrev pub invariant-tokens : goal.invariant-tokens
invariant-tokens l = record {
  within : l.at ≤ length l.text;
  same : offset_from l.text (cause_from l.fault l.scope (lexemes_from l.text l.at)) ≡ offset_of_cause l.text l.fault;
}

abbrev pub decreases-tokens : goal.decreases-tokens
decreases-tokens l = length l.text - l.at
