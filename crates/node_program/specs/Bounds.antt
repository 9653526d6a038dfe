-- Upper bounds of the values of a program, from its text and the number m of identifiers alone.
use Rattle.std.specs.Prelude.{ℕ, zero, suc, ◌+◌, ◌-◌, ◌*◌, ◌/◌, ◌^◌, ◌≤◌, nat_lt, min, max, Option, Some, None, List}
use Rattle.std.specs.Prelude.{[], map, length, slice_get, slice_index, if◌then◌else◌}
use Rattle.node_program.specs.declared.tree.BinOp.{BinOp}
use Rattle.node_program.specs.declared.tree.BinOp.TheVariants.{And, Or, Xor, Shl, Shr, Add, Sub, Min, Max, Ldb, Bit, Eq}
use Rattle.node_program.specs.declared.tree.BinOp.TheVariants.{Ne, Lt, Le}
use Rattle.node_program.specs.Term.{Term, Literal, Identifier, LeftMessage, RightMessage, RegisterValue, One, Two}
use Rattle.node_program.specs.Term.{Choose, Round, ProgramTree}
use Rattle.node_program.specs.Operations.{top}
use Rattle.node_program.specs.Value.{Env}

-- how often x can be halved before it is 0, at most n times
abbrev pub halvings : ℕ → ℕ → ℕ
halvings zero x = 0
halvings (suc n) zero = 0
halvings (suc n) (suc x) = suc (halvings n (suc x / 2))

-- the number of binary digits of x; 0 has none
unfoldable pub bits : ℕ → ℕ
bits x = halvings x x

-- the number of a literal; other expressions have none
abbrev pub written_number : Term → Option ℕ
written_number (Literal n) = Some n
written_number _ = None

-- the bound of a shift to the left, by a literal or by any other expression
abbrev pub shl_bound : Option ℕ → ℕ → ℕ
shl_bound (Some k) a = if nat_lt k 32 then min (a * 2 ^ k) top else top
shl_bound None a = top

-- the bound of a shift to the right, by a literal or by any other expression
abbrev pub shr_bound : Option ℕ → ℕ → ℕ
shr_bound (Some k) a = a / 2 ^ k
shr_bound None a = a

-- the bound of an operation from those of its operands, and from the literal that its second operand is, if it is one
abbrev pub binary_bound : BinOp → Option ℕ → ℕ → ℕ → ℕ
binary_bound And written a b = min a b
binary_bound Or written a b = 2 ^ bits (max a b) - 1
binary_bound Xor written a b = 2 ^ bits (max a b) - 1
binary_bound Shl written a b = shl_bound written a
binary_bound Shr written a b = shr_bound written a
binary_bound Add written a b = min (a + b) top
binary_bound Sub written a b = a
binary_bound Min written a b = min a b
binary_bound Max written a b = max a b
binary_bound Ldb written a b = bits (max a b) - 1
binary_bound Bit written a b = 1
binary_bound Eq written a b = 1
binary_bound Ne written a b = 1
binary_bound Lt written a b = 1
binary_bound Le written a b = 1

-- the bound of an expression from the bounds of what it may read; that of `not` is the largest value
abbrev pub bound : Term → Env → ℕ
bound (Literal n) env = n
bound Identifier env = env.id
bound LeftMessage env = env.left
bound RightMessage env = env.right
bound (RegisterValue j) env = slice_index env.registers j
bound (One o a) env = top
bound (Two o a b) env = binary_bound o (written_number b) (bound a env) (bound b env)
bound (Choose c a b) env = max (bound a env) (bound b env)

-- the bounds of what an expression may read: identifiers are below m, then those of the messages and of the registers
abbrev pub reading_bounds : ℕ → ℕ → ℕ → List ℕ → Env
reading_bounds m left right registers = record { id = m - 1; left = left; right = right; registers = registers }

-- the bounds of the registers before the first round; before the start they hold 0
abbrev pub start_bounds : ProgramTree → ℕ → List ℕ
start_bounds p m = map (λ e. bound e (reading_bounds m 0 0 [])) p.start

-- the bound of what a round sends to the left, and to the right, by the bounds of the registers before it
abbrev pub left_sent_bound : Round → ℕ → List ℕ → ℕ
left_sent_bound s m registers = bound s.left (reading_bounds m 0 0 registers)

abbrev pub right_sent_bound : Round → ℕ → List ℕ → ℕ
right_sent_bound s m registers = bound s.right (reading_bounds m 0 0 registers)

-- what comes from the left was sent to the right in this round, and the other way round
abbrev pub arriving_bounds : Round → ℕ → List ℕ → Env
arriving_bounds s m registers =
    reading_bounds m (right_sent_bound s m registers) (left_sent_bound s m registers) registers

-- the bounds of the registers after a round; all assignments read those from before it
abbrev pub next_bounds : Option Round → ℕ → List ℕ → List ℕ
next_bounds None m registers = []
next_bounds (Some s) m registers = map (λ e. bound e (arriving_bounds s m registers)) s.next

-- the bounds of the registers after r rounds
abbrev pub register_bounds : ProgramTree → ℕ → ℕ → List ℕ
register_bounds p m zero = start_bounds p m
register_bounds p m (suc r) = next_bounds (slice_get p.steps r) m (register_bounds p m r)

-- the bound of the channels, which read the registers after the last round
unfoldable pub finish_bound : ProgramTree → ℕ → ℕ
finish_bound p m = bound p.finish (reading_bounds m 0 0 (register_bounds p m (length p.steps)))

-- each register is at most its bound
abbrev pub IsWithin : List ℕ → List ℕ → Type 0
IsWithin registers bounds = (j : ℕ) → slice_index registers j ≤ slice_index bounds j
