use Rattle.std.proofs.Common.{◌≡◌, ◌≤◌, ◌-◌, length}
use Rattle.std.specs.List.{list_any}
use Rattle.node_lang.specs.Lexemes.{lexemes_from}
use Rattle.fault_notes.specs.ProgramNotes.{is_not, has_not}
use Rattle.fault_notes.proofs.cause_tokens.has_not.Given as goal

-- no `not` is before this offset
abbrev pub invariant-tokens : goal.invariant-tokens
invariant-tokens l = record {
  within : l.at ≤ length l.text;
  same : list_any (λ x. is_not x.token) (lexemes_from l.text l.at) ≡ has_not l.text;
}

abbrev pub decreases-tokens : goal.decreases-tokens
decreases-tokens l = length l.text - l.at
