-- The fill machine: workers that draw jobs and fill the jobs' cells with blocks, one event after another.
use Rattle.std.specs.Prelude.{◌≡◌, ℕ, ◌+◌, ◌<◌, ◌≤◌, ◌==◌, ◌⊎◌, Bool, true, false, cond, List, [], ◌∷◌, Option, None}
use Rattle.std.specs.Prelude.{Some, IsSome, length, replicate, slice_index_or, slice_set, refl}
use Rattle.std.specs.Coded.{Coded, code_by, coded×, coded_ℕ, coded_list, coded_option, coded_bool}
use Rattle.lang_check.specs.Plans.{ProgramForIds, plan_code}
use Rattle.unroll.specs.Below.{IsBelow}
use Rattle.round_eval.specs.BlockStates.{MadeBlock, block_code}
use Rattle.shared_memo.specs.PlanJobs.{job_count, job_of}
use Rattle.fill_core.specs.declared.state.FillEvent.{FillEvent}
use Rattle.fill_core.specs.declared.state.FillEvent.TheVariants.{Draw, Look, Install}

-- a worker: the job in hand, whether it is stopped, and for each job whether its block is known
pub record Worker : Type 0 where
  pub hand : Option ℕ
  pub stopped : Bool
  pub knows : List Bool

-- a plan, a cell for each of its jobs, the next job to be drawn, and the workers
pub record Machine : Type 0 where
  pub plan : ProgramForIds
  pub cells : List (Option MadeBlock)
  pub next : ℕ
  pub workers : List Worker

-- a machine of this plan, with so many workers
abbrev pub IsMachineOf : ProgramForIds → ℕ → Machine → Type 0
IsMachineOf plan workers s = (s.plan ≡ plan) × (length s.workers ≡ workers)

-- injective codes of workers and of machines, which their models ask for
abbrev pub worker_code : Coded Worker
worker_code =
    code_by (Option ℕ × (Bool × List Bool)) (coded× (coded_option coded_ℕ) (coded× coded_bool (coded_list coded_bool)))
    (λ v. (v.hand, (v.stopped, v.knows))) (λ t. record { hand = t.0; stopped = t.1.0; knows = t.1.1 }) (λ _. refl)

abbrev pub machine_code : Coded Machine
machine_code =
    code_by (ProgramForIds × (List (Option MadeBlock) × (ℕ × List Worker)))
    (coded× plan_code (coded× (coded_list (coded_option block_code)) (coded× coded_ℕ (coded_list worker_code))))
    (λ s. (s.plan, (s.cells, (s.next, s.workers))))
    (λ t. record { plan = t.0; cells = t.1.0; next = t.1.1.0; workers = t.1.1.1 }) (λ _. refl)

-- at first all cells are empty, no job is drawn, no worker has a job in hand or is stopped, and none knows a block
abbrev pub idle : ℕ → Worker
idle jobs = record { hand = None; stopped = false; knows = replicate jobs false }

abbrev pub opening : ProgramForIds → ℕ → Machine
opening plan workers =
    record {
      plan = plan;
      cells = replicate (job_count plan) None;
      next = 0;
      workers = replicate workers (idle (job_count plan));
    }

-- worker w; a number that no worker has reads as a stopped worker that has no job in hand and knows no block
abbrev pub nobody : Worker
nobody = record { hand = None; stopped = true; knows = [] }

abbrev pub worker : Machine → ℕ → Worker
worker s w = slice_index_or s.workers w nobody

-- the content of a job's cell, if there is a job
abbrev pub cell_of : List (Option MadeBlock) → Option ℕ → Option MadeBlock
cell_of cells None = None
cell_of cells (Some job) = slice_index_or cells job None

-- whether a job is marked, if there is a job
abbrev pub is_marked : List Bool → Option ℕ → Bool
is_marked marks None = false
is_marked marks (Some job) = slice_index_or marks job false

-- the block in the cell of a level and a number
abbrev pub cell_at : Machine → ℕ → ℕ → Option MadeBlock
cell_at s level number = cell_of s.cells (job_of s.plan level number)

-- whether worker w knows the block of a level and a number
abbrev pub knows_at : Machine → ℕ → ℕ → ℕ → Bool
knows_at s w level number = is_marked (worker s w).knows (job_of s.plan level number)

-- worker w may draw: it has no job in hand and is not stopped
pub record CanDraw (s : Machine) (w : ℕ) : Type 0 where
  pub is_worker : w < length s.workers
  pub free : (worker s w).hand ≡ None
  pub active : (worker s w).stopped ≡ false

-- then it has the next job in hand
abbrev pub drawn : Machine → ℕ → Machine
drawn s w = record s { next = s.next + 1; workers = slice_set s.workers w (record (worker s w) { hand = Some s.next }) }

-- or it is stopped
abbrev pub stopped : Machine → ℕ → Machine
stopped s w = record s { workers = slice_set s.workers w (record (worker s w) { stopped = true }) }

-- worker w may look at the cell of a level and a number, which is that of the job: the cell is full
pub record CanLook (s : Machine) (w level number job : ℕ) : Type 0 where
  pub is_worker : w < length s.workers
  pub is_job : job_of s.plan level number ≡ Some job
  pub full : IsSome (cell_at s level number)

-- what is in hand once this job is done
abbrev pub put_down : ℕ → Option ℕ → Option ℕ
put_down job None = None
put_down job (Some other) = cond (other == job) None (Some other)

-- a worker that has learned this job's block, and no longer has the job in hand
abbrev pub learned : ℕ → Worker → Worker
learned job v = record v { hand = put_down job v.hand; knows = slice_set v.knows job true }

-- then the worker knows the block
abbrev pub looked : Machine → ℕ → ℕ → Machine
looked s w job = record s { workers = slice_set s.workers w (learned job (worker s w)) }

-- the marked jobs include all blocks below the block of this level and number
abbrev pub MarksBelow : ProgramForIds → List Bool → ℕ → ℕ → Type 0
MarksBelow plan marks level number = (low c : ℕ) → IsBelow plan.ids level number low c
    → is_marked marks (job_of plan low c) ≡ true

-- worker w may install the block of a level and a number, which is that of the job: the cell is empty, and the
-- worker knows all blocks below
pub record CanInstall (s : Machine) (w level number job : ℕ) : Type 0 where
  pub is_worker : w < length s.workers
  pub is_job : job_of s.plan level number ≡ Some job
  pub empty : cell_at s level number ≡ None
  pub knows_below : MarksBelow s.plan (worker s w).knows level number

-- the plan's block of a level and a number, by this maker
abbrev pub block_by : ProgramForIds → ℕ → ℕ → ℕ → MadeBlock
block_by plan level number maker = record { plan = plan; level = level; number = number; maker = maker }

-- then the cell holds the block by this worker, who knows it
abbrev pub installed : Machine → ℕ → ℕ → ℕ → ℕ → Machine
installed s w level number job =
    record s {
      cells = slice_set s.cells job (Some (block_by s.plan level number w));
      workers = slice_set s.workers w (learned job (worker s w));
    }

-- the effect of an event on s. An event that is not enabled, or that names a worker, a level or a number out of range,
-- changes nothing. A worker that draws after all jobs are drawn is stopped
abbrev pub Steps : Machine → FillEvent → Machine → Type 0
Steps s (Draw w) t =
    (CanDraw s w × (s.next < job_count s.plan) × (t ≡ drawn s w))
    ⊎ ((CanDraw s w × (job_count s.plan ≤ s.next) × (t ≡ stopped s w))
    ⊎ ((¬ CanDraw s w) × (t ≡ s)))
Steps s (Look w level number) t =
    ((job : ℕ) × CanLook s w level number job × (t ≡ looked s w job))
    ⊎ (((job : ℕ) → ¬ CanLook s w level number job) × (t ≡ s))
Steps s (Install w level number) t =
    ((job : ℕ) × CanInstall s w level number job × (t ≡ installed s w level number job))
    ⊎ (((job : ℕ) → ¬ CanInstall s w level number job) × (t ≡ s))

-- the effect of a list of events on s
abbrev pub Runs : Machine → List FillEvent → Machine → Type 0
Runs s [] t = t ≡ s
Runs s (e ∷ es) t = (m : Machine) × Steps s e m × Runs m es t
