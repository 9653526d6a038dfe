use Rattle.std.proofs.Common.{◌≡◌}
use Rattle.round_eval.proofs.rounds.plain_run.Given as goal

-- the configuration after the rounds that are done
abbrev pub invariant-loop-round : goal.invariant-loop-round
invariant-loop-round l = l.places ≡ record { program = l.plan.program; places = l.ring.places; round = l._round }
