-- The limits that the type of a program keeps.
use Rattle.std.specs.Prelude.{◌≡◌, ◌^◌, ◌<◌, ◌≤◌, List, length, All, sum_by}
use Rattle.node_program.specs.declared.limits.TheConstants.{MAX_CHANNELS, MAX_DEPTH, MAX_NODES}
use Rattle.node_program.specs.declared.limits.TheConstants.{MAX_REGISTERS, MAX_ROUNDS}
use Rattle.node_program.specs.Term.{Term, ProgramTree, term_of, depth, size, largest, largest_register, terms}
use Rattle.node_program.specs.declared.tree.Expr.{Expr}
use Rattle.node_program.specs.declared.tree.Round as code

-- an expression is at most MAX_DEPTH deep, its numbers are below 2^32, and its registers have one digit
pub record IsSmall (e : Term) : Type 0 where
  pub depth : depth e ≤ MAX_DEPTH
  pub numbers : largest e < 2 ^ 32
  pub registers : largest_register e < 10

-- these expressions of the code are small
abbrev pub AreSmall : List Expr → Type 0
AreSmall expressions = All (λ e. IsSmall (term_of e)) expressions

-- the expressions of this round are small
pub record IsSmallRound (round : code.Round) : Type 0 where
  pub left : IsSmall (term_of round.left)
  pub right : IsSmall (term_of round.right)
  pub next : AreSmall round.next.items

pub record IsWithinLimits (p : ProgramTree) : Type 0 where
  pub rounds : length p.steps ≤ MAX_ROUNDS
  pub some_channels : 1 ≤ p.channels
  pub few_channels : p.channels ≤ MAX_CHANNELS
  pub some_registers : 1 ≤ length p.start
  pub few_registers : length p.start ≤ MAX_REGISTERS
  -- each round has an expression for each register
  pub each_register : All (λ s. length s.next ≡ length p.start) p.steps
  pub small : All IsSmall (terms p)
  -- expression nodes
  pub nodes : sum_by size (terms p) ≤ MAX_NODES
