-- The messages of global rounds, and their senders.
use Rattle.std.specs.Prelude.{ℕ, List}
use Rattle.node_program.specs.Term.{ProgramTree}
use Rattle.node_program.specs.Node.{to_left, to_right}
use Rattle.node_program.specs.GlobalRounds.{state}
use Rattle.lang_check.specs.Plans.{ProgramForIds}
use Rattle.win_index.specs.Ring.{OrientedRing}
use Rattle.border_exchange.specs.declared.Side.{Side}
use Rattle.border_exchange.specs.declared.Side.TheVariants.{Rightward, Leftward}

-- the message of place i of the ring x to a side in round r
abbrev pub message_at : ProgramTree → List ℕ → ℕ → ℕ → Side → ℕ
message_at p x r i Rightward = to_right p r (state p x r i)
message_at p x r i Leftward = to_left p r (state p x r i)

-- the plan and the ring of a run, the sending place, the side and the round of a message
pub record Heading : Type 0 where
  pub plan : ProgramForIds
  pub ring : OrientedRing
  pub place : ℕ
  pub side : Side
  pub round : ℕ

-- the message with a heading
abbrev pub sent_under : Heading → ℕ
sent_under h = message_at h.plan.program h.ring.places h.round h.place h.side
