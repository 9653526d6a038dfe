-- The content of a block: the states of at most BLOCK_WINDOWS consecutive windows of one level.
use Rattle.std.specs.Prelude.{◌≡◌, ℕ, ◌+◌, ◌-◌, ◌*◌, ◌<◌, ◌≤◌, min, List, [], length, slice_index_or, refl}
use Rattle.std.specs.Coded.{Coded, code_by, coded×, coded_ℕ}
use Rattle.win_index.specs.Windows.{windows}
use Rattle.win_index.specs.Blocks.{block_count, window_count}
use Rattle.lang_check.specs.Plans.{ProgramForIds, plan_code}
use Rattle.round_eval.specs.Line.{middle_state}
use Rattle.win_index.specs.declared.limits.TheConstants.{BLOCK_WINDOWS}

-- a level of the plan, and the number of one of its blocks
abbrev pub IsKey : ProgramForIds → ℕ → ℕ → Type 0
IsKey plan level number = (level ≤ length plan.program.steps) × (number < block_count plan.ids level)

-- the window of level r with number n
abbrev pub window_numbered : ℕ → ℕ → ℕ → List ℕ
window_numbered m r n = slice_index_or (windows (2 * r + 1) m) n []

-- the number of windows of block b of level r: those from number BLOCK_WINDOWS*b on, at most BLOCK_WINDOWS
abbrev pub block_len : ℕ → ℕ → ℕ → ℕ
block_len m r b = min BLOCK_WINDOWS (window_count m r - BLOCK_WINDOWS * b)

-- state i of block b of level r: that of the window with number BLOCK_WINDOWS*b + i
abbrev pub block_state : ProgramForIds → ℕ → ℕ → ℕ → List ℕ
block_state plan r b i = middle_state plan.program r (window_numbered plan.ids r (BLOCK_WINDOWS * b + i))

-- a block: its plan, level, number and maker. Its states follow from the first three
pub record MadeBlock : Type 0 where
  pub plan : ProgramForIds
  pub level : ℕ
  pub number : ℕ
  pub maker : ℕ

-- a block of this plan, level and number
abbrev pub IsKeyedBlock : ProgramForIds → ℕ → ℕ → MadeBlock → Type 0
IsKeyedBlock plan level number b = (b.plan ≡ plan) × (b.level ≡ level) × (b.number ≡ number)

-- an injective code of blocks, which their model asks for
abbrev pub block_code : Coded MadeBlock
block_code =
    code_by (ProgramForIds × (ℕ × (ℕ × ℕ))) (coded× plan_code (coded× coded_ℕ (coded× coded_ℕ coded_ℕ)))
    (λ b. (b.plan, (b.level, (b.number, b.maker))))
    (λ t. record { plan = t.0; level = t.1.0; number = t.1.1.0; maker = t.1.1.1 }) (λ _. refl)
