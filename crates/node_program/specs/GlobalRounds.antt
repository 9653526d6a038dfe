-- Global rounds, the LOCAL model on an oriented ring: all places step at once (Linial 1992).
use Rattle.std.specs.Prelude.{ℕ, zero, suc, ◌+◌, ◌-◌, ◌%◌, List, map, length, slice_index}
use Rattle.std.specs.List.{range_with_len}
use Rattle.node_program.specs.Term.{ProgramTree}
use Rattle.node_program.specs.Node.{start, to_left, to_right, next, channel}

-- the places of a node's neighbours, modulo the ring's length
abbrev pub left_of : List ℕ → ℕ → ℕ
left_of x i = (i + length x - 1) % length x

abbrev pub right_of : List ℕ → ℕ → ℕ
right_of x i = (i + 1) % length x

-- global rounds: the registers of place i of the ring x after r rounds
abbrev pub state : ProgramTree → List ℕ → ℕ → ℕ → List ℕ
state p x zero i = start p (slice_index x i)
state p x (suc r) i =
    next p r (state p x r i) (to_right p r (state p x r (left_of x i))) (to_left p r (state p x r (right_of x i)))

-- the channel of place i after all rounds, and those of all places in order
unfoldable pub channel_at : ProgramTree → List ℕ → ℕ → ℕ
channel_at p x i = channel p (state p x (length p.steps) i)

abbrev pub channels_of : ProgramTree → List ℕ → List ℕ
channels_of p x = map (channel_at p x) (range_with_len 0 (length x))
