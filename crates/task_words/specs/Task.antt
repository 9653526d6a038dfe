-- Properties of a task.
use Rattle.std.specs.Prelude.{ℕ, ◌≤◌, ⊤, Some, length}
use Rattle.ring_problems.specs.Demands.{patterns_of}
use Rattle.ring_problems.specs.declared.problem.Demand.{Demand}
use Rattle.ring_problems.specs.declared.problem.Demand.TheVariants.{Apart, Solve}
use Rattle.ring_problems.specs.declared.problem.Problem.{Problem}
use Rattle.task_words.specs.declared.limits.TheConstants.{MAX_PATTERNS}
use Rattle.task_words.specs.declared.task.Task.{Task}
use Rattle.task_words.specs.declared.task.Task.TheVariants.{Table, Judge, Run, Plan, Audit, Formula, Refute}
use Rattle.task_words.specs.Counts.{IsCount, IsNear, IsFar, AreFormulaNumbers}

-- the number of segments in which its ring is run, 1 if the task has no such number
abbrev pub segments_of : Task → ℕ
segments_of (Run ids ring segments) = segments
segments_of _ = 1

-- the task is to print a formula
abbrev pub IsFormula : Task → Type 0
IsFormula (Formula ids rounds channels demand) = ⊤
IsFormula _ = ⊥

-- the problem has 1 to MAX_PATTERNS patterns
pub record HasFewPatterns (problem : Problem) : Type 0 where
  pub some : 1 ≤ length (patterns_of problem)
  pub few : length (patterns_of problem) ≤ MAX_PATTERNS

-- the minimum differences of channels that are demanded are in their ranges, or the problem has few patterns
abbrev pub IsDemandInRange : Demand → Type 0
IsDemandInRange (Apart separation) = IsNear separation.near × IsFar separation.far
IsDemandInRange (Solve problem) = HasFewPatterns problem

-- A task that can be done: its number of workers, what it demands of channels and the numbers of a formula, if it
-- has any, are in their ranges. A run in any number of segments can be done, since its report covers a number out
-- of range.
abbrev pub IsRunnable : Task → Type 0
IsRunnable (Table ids workers near far) = IsCount workers × IsNear near × IsFar far
IsRunnable (Judge ids workers demand) = IsCount workers × IsDemandInRange demand
IsRunnable (Plan ids ring workers) = IsCount workers
IsRunnable (Audit (Some problem)) = HasFewPatterns problem
IsRunnable (Formula ids rounds channels demand) = AreFormulaNumbers rounds channels × IsDemandInRange demand
IsRunnable (Refute ids rounds channels demand) = AreFormulaNumbers rounds channels × IsDemandInRange demand
IsRunnable _ = ⊤

-- a task with all its numbers in their ranges: it can be done, and its number of segments is one that the option takes
abbrev pub IsInRange : Task → Type 0
IsInRange task = IsRunnable task × IsCount (segments_of task)
