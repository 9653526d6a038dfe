-- Each event keeps the invariant of the fill machine, its plan and its number of workers.
use Rattle.std.proofs.Common.{◌≡◌, ◌≢◌, ℕ, ◌+◌, ◌<◌, ◌≤◌, ◌⊎◌, Bool, true, false, cond, eqb, Option, None, Some, IsSome}
use Rattle.std.proofs.Common.{List, [], ◌∷◌, ◌++◌, length, get_or, set, replicate, refl, sym, ap, ◌∙◌, subst, inl, inr}
use Rattle.std.proofs.Common.{⊎_elim, arith, length-set, get_or-set_same, get_or-set_other}
use mathlib.Core.Logic.{dite}
use native.Mathlib.Decide.{ℕ_discrete}
use Rattle.std.proofs.lemmas.Bool.{false≢true, cases_lt, eqb-true}
use Rattle.std.proofs.lemmas.List.{length-replicate, get_or-replicate, get_or_past}
use Rattle.std.proofs.lemmas.Option.{none-some, same_Some, slice_get_within}
use Rattle.win_index.specs.Jobs.{jobs_of}
use Rattle.win_index.specs.Laws.{JobsStandAtNumbers}
use Rattle.lang_check.specs.Plans.{ProgramForIds}
use Rattle.shared_memo.specs.PlanJobs.{job_count, job_of}
use Rattle.round_eval.specs.BlockStates.{MadeBlock}
use Rattle.fill_core.specs.declared.state.FillEvent.{FillEvent}
use Rattle.fill_core.specs.declared.state.FillEvent.TheVariants.{Draw, Look, Install}
use Rattle.fill_core.specs.FillMachine.{Worker, Machine, idle, opening, nobody, worker, cell_of, CanDraw, drawn}
use Rattle.fill_core.specs.FillMachine.{stopped, CanLook, put_down, learned, looked, CanInstall, block_by, installed}
use Rattle.fill_core.specs.FillMachine.{Steps, Runs}
use Rattle.fill_core.specs.FillPromises.{HoldsJobs, MarkedAreFull, IsConsistent, Follows, IsFilledWhenStopped}

abbrev is_full : List (Option MadeBlock) → ℕ → Type 0
is_full cells job = IsSome (get_or cells job None)

abbrev replaced : Machine → ℕ → Worker → List (Option MadeBlock) → ℕ → Machine
replaced s w v cells next = record { plan = s.plan; cells = cells; next = next; workers = set s.workers w v }

-- a property of worker w replaced by v, and of all workers of s, holds of all workers after the replacement
each_worker :
    (P : ℕ → Worker → Type 0) (l : List Worker) (w : ℕ) (v : Worker) → w < length l → P w v
    → ((u : ℕ) → P u (get_or l u nobody))
    → (u : ℕ) → P u (get_or (set l w v) u nobody)
each_worker P l w v inside own others = λ u.
    dite (ℕ_discrete u w)
    (λ same. subst (λ (j : ℕ). P j (get_or (set l w v) j nobody)) (sym same) (subst (P w) (sym (get_or-set_same l w v nobody inside)) own))
    (λ other. subst (P u) (sym (get_or-set_other l w u v nobody other)) (others u))

-- an event replaces one worker by v, the cells and the next job: what it has to keep
record Keeps (s : Machine) (w : ℕ) (v : Worker) (cells : List (Option MadeBlock)) (next : ℕ) : Type 0 where
  inside : w < length s.workers
  holds : HoldsJobs s.plan cells
  grows : (job : ℕ) → is_full s.cells job → is_full cells job
  marks : length v.knows ≡ job_count s.plan
  known : MarkedAreFull cells v.knows
  onward : s.next ≤ next
  few : next ≤ job_count s.plan
  hand : (job : ℕ) → v.hand ≡ Some job → ((worker s w).hand ≡ Some job) ⊎ ((job ≡ s.next) × (s.next < next))
  new_job : (job : ℕ) → job < next → (job < s.next) ⊎ (v.hand ≡ Some job)
  dropped : (job : ℕ) → (worker s w).hand ≡ Some job → (v.hand ≡ Some job) ⊎ is_full cells job
  ended : v.stopped ≡ true → (job_count s.plan ≤ next) × (v.hand ≡ None)

keeps : (s : Machine) (w : ℕ) (v : Worker) (cells : List (Option MadeBlock)) (next : ℕ) → IsConsistent s
    → Keeps s w v cells next → Follows s (replaced s w v cells next)
keeps s w v cells next h k =
    record {
      plan = refl;
      workers = count;
      consistent = record {
        cells = k.holds;
        some_worker = omega (arith, count, h.some_worker);
        marks = λ u lt. each (λ u x. u < length s.workers → length x.knows ≡ n) (λ _. k.marks) h.marks u
            (omega (arith, count, lt));
        known = each (λ u x. MarkedAreFull cells x.knows) k.known (λ u job e. k.grows job (h.known u job e));
        few = k.few;
        placed = λ job lt. placed job (k.new_job job lt);
        one_hand = λ u y job.
            each (λ u x. x.hand ≡ Some job → (worker t y).hand ≡ Some job → u ≡ y)
            (λ mine. each (λ z x. x.hand ≡ Some job → w ≡ z) (λ _. refl) (λ z its. sole z job its (k.hand job mine)) y)
            (λ u its. each (λ z x. x.hand ≡ Some job → u ≡ z) (λ mine. sym (sole u job its (k.hand job mine))) (λ z other. h.one_hand u z job its other) y) u;
        below = each (λ u x. (job : ℕ) → x.hand ≡ Some job → job < next) (λ job mine. below job (k.hand job mine))
            (λ u job its. omega (arith, h.below u job its, k.onward));
        ended = λ u lt.
            each (λ u x. u < length s.workers → x.stopped ≡ true → (n ≤ next) × (x.hand ≡ None)) (λ _. k.ended)
            (λ u lt e. let end = h.ended u lt e in (omega (arith, end.0, k.onward), end.1)) u
            (omega (arith, count, lt));
      };
    }
  where
    t : Machine
    t = replaced s w v cells next

    n : ℕ
    n = job_count s.plan

    count : length (set s.workers w v) ≡ length s.workers
    count = length-set s.workers w v

    each : (P : ℕ → Worker → Type 0) → P w v → ((u : ℕ) → P u (worker s u)) → (u : ℕ) → P u (worker t u)
    each P own others = each_worker P s.workers w v k.inside own others

    IsPlaced : ℕ → Type 0
    IsPlaced job = is_full cells job ⊎ ((u : ℕ) × ((worker t u).hand ≡ Some job))

    kept : (job : ℕ) → worker t w ≡ v → (v.hand ≡ Some job) ⊎ is_full cells job → IsPlaced job
    kept job is (inl still) = inr (w, ap (λ (x : Worker). x.hand) is ∙ still)
    kept job is (inr full) = inl full

    held : (job u : ℕ) → worker t u ≡ worker t u → (worker s u).hand ≡ Some job → IsPlaced job
    held job = each (λ u x. worker t u ≡ x → (worker s u).hand ≡ Some job → IsPlaced job)
        (λ is old. kept job is (k.dropped job old))
        (λ u is old. inr (u, ap (λ (x : Worker). x.hand) is ∙ old))

    stays : (job : ℕ) → is_full s.cells job ⊎ ((u : ℕ) × ((worker s u).hand ≡ Some job)) → IsPlaced job
    stays job (inl full) = inl (k.grows job full)
    stays job (inr old) = held job old.0 refl old.1

    placed : (job : ℕ) → (job < s.next) ⊎ (v.hand ≡ Some job) → IsPlaced job
    placed job (inl before) = stays job (h.placed job before)
    placed job (inr now) = kept job (get_or-set_same s.workers w v nobody k.inside) (inl now)

    sole : (z job : ℕ) → (worker s z).hand ≡ Some job
        → ((worker s w).hand ≡ Some job) ⊎ ((job ≡ s.next) × (s.next < next)) → w ≡ z
    sole z job its (inl old) = h.one_hand w z job old its
    sole z job its (inr fresh) = absurd (omega (arith, fresh.0, h.below z job its))

    below : (job : ℕ) → ((worker s w).hand ≡ Some job) ⊎ ((job ≡ s.next) × (s.next < next)) → job < next
    below job (inl old) = omega (arith, h.below w job old, k.onward)
    below job (inr fresh) = omega (arith, fresh.0, fresh.1)

follows_drawn : (s : Machine) (w : ℕ) → IsConsistent s → CanDraw s w → s.next < job_count s.plan → Follows s (drawn s w)
follows_drawn s w h can more =
    keeps s w (record (worker s w) { hand = Some s.next }) s.cells (s.next + 1) h (record {
      inside = can.is_worker;
      holds = h.cells;
      grows = λ job full. full;
      marks = h.marks w can.is_worker;
      known = h.known w;
      onward = omega arith;
      few = omega (arith, more);
      hand = λ job e. inr (sym (same_Some s.next job e), omega arith);
      new_job = λ job lt.
          ⊎_elim (λ (before : job < s.next). inl before)
          (λ (after : s.next ≤ job). let same : s.next ≡ job = omega arith in inr (ap (λ (j : ℕ). Some j) same))
          (cases_lt job s.next);
      dropped = λ job e. absurd (none-some job (sym can.free ∙ e));
      ended = λ e. absurd (false≢true (sym can.active ∙ e));
    })

follows_stopped : (s : Machine) (w : ℕ) → IsConsistent s → CanDraw s w → job_count s.plan ≤ s.next
    → Follows s (stopped s w)
follows_stopped s w h can done =
    keeps s w (record (worker s w) { stopped = true }) s.cells s.next h (record {
      onward = omega arith;
      few = h.few;
      hand = λ job e. inl e;
      new_job = λ job lt. inl lt;
      dropped = λ job e. inl e;
      ended = λ e. (done, can.free);
      inside = can.is_worker;
      holds = h.cells;
      grows = λ job full. full;
      marks = h.marks w can.is_worker;
      known = h.known w;
    })

-- the job that was dropped
put_down_was : (job j : ℕ) (o : Option ℕ) → put_down job o ≡ Some j → o ≡ Some j
put_down_was job j None e = e
put_down_was job j (Some other) e = was (eqb other job) e
  where
    was : (b : Bool) → cond b None (Some other) ≡ Some j → Some other ≡ Some j
    was true e = absurd (none-some j e)
    was false e = e

put_down_or : (job j : ℕ) (o : Option ℕ) → o ≡ Some j → (put_down job o ≡ Some j) ⊎ (j ≡ job)
put_down_or job j None e = absurd (none-some j e)
put_down_or job j (Some other) e = either (eqb other job) refl
  where
    either : (b : Bool) → eqb other job ≡ b → (cond b None (Some other) ≡ Some j) ⊎ (j ≡ job)
    either true is = inr (sym (same_Some other j e) ∙ eqb-true other job is)
    either false is = inl e

-- a worker knows one more job, whose cell is full then
follows_learned :
    (s : Machine) (w job : ℕ) (cells : List (Option MadeBlock)) → IsConsistent s → w < length s.workers
    → HoldsJobs s.plan cells
    → ((j : ℕ) → is_full s.cells j → is_full cells j) → is_full cells job
    → Follows s (replaced s w (learned job (worker s w)) cells s.next)
follows_learned s w job cells h inside holds grows full =
    let v : Worker = worker s w in
    let here : (j : ℕ) → j ≡ job → is_full cells j = λ j same. subst (is_full cells) (sym same) full in
    keeps s w (learned job v) cells s.next h (record {
      inside = inside;
      holds = holds;
      grows = grows;
      marks = length-set v.knows job true ∙ h.marks w inside;
      known = λ j e.
          dite (ℕ_discrete j job) (here j)
          (λ other. grows j (h.known w j (sym (get_or-set_other v.knows job j true false other) ∙ e)));
      onward = omega arith;
      few = h.few;
      hand = λ j e. inl (put_down_was job j v.hand e);
      new_job = λ j lt. inl lt;
      dropped = λ j e.
          ⊎_elim (λ (still : put_down job v.hand ≡ Some j). inl still) (λ (same : j ≡ job). inr (here j same))
          (put_down_or job j v.hand e);
      ended = λ e. let end = h.ended w inside e in (end.0, ap (put_down job) end.1);
    })

follows_looked : (s : Machine) (w level number job : ℕ) → IsConsistent s → CanLook s w level number job
    → Follows s (looked s w job)
follows_looked s w level number job h can =
    follows_learned s w job s.cells h can.is_worker h.cells (λ j full. full)
    (subst (λ (o : Option ℕ). IsSome (cell_of s.cells o)) can.is_job can.full)

follows_installed :
    (s : Machine) (w level number job : ℕ) (law : JobsStandAtNumbers) → IsConsistent s → CanInstall s w level number job
    → Follows s (installed s w level number job)
follows_installed s w level number job law h can =
    let b : MadeBlock = block_by s.plan level number w in
    let t : ℕ = length s.plan.program.steps in
    let within = slice_get_within (jobs_of s.plan.ids t) job (level, number)
    ((law s.plan.ids t level number job).0 can.is_job) in
    let cells : List (Option MadeBlock) = set s.cells job (Some b) in
    let own : get_or cells job None ≡ Some b =
    get_or-set_same s.cells job (Some b) None (omega (arith, within, h.cells.size)) in
    let full : is_full cells job = subst (λ (o : Option MadeBlock). IsSome o) (sym own) refl in
    let still : (j : ℕ) → j ≢ job → get_or cells j None ≡ get_or s.cells j None =
    λ j other. get_or-set_other s.cells job j (Some b) None other in
    follows_learned s w job cells h can.is_worker (record {
      size = length-set s.cells job (Some b) ∙ h.cells.size;
      filled = λ j x e.
          dite (ℕ_discrete j job)
          (λ same.
          let is : b ≡ x = same_Some b x (sym own ∙ ap (λ (i : ℕ). get_or cells i None) (sym same) ∙ e) in (
            sym (ap (λ (y : MadeBlock). y.plan) is),
            ap (λ (y : MadeBlock). job_of s.plan y.level y.number) (sym is) ∙ can.is_job
                ∙ ap (λ (i : ℕ). Some i) (sym same),
          ))
          (λ other. h.cells.filled j x (sym (still j other) ∙ e));
    })
    (λ j some. dite (ℕ_discrete j job) (λ same. subst (is_full cells) (sym same) full) (λ other. subst (λ (o : Option MadeBlock). IsSome o) (sym (still j other)) some))
    full

-- what equals a successor is one
along : (s t u : Machine) → Follows s t → u ≡ t → Follows s u
along s t u f e = subst (λ (x : Machine). Follows s x) (sym e) f

unchanged : (s : Machine) → IsConsistent s → Follows s s
unchanged s h = record { plan = refl; workers = refl; consistent = h }

step_follows : (e : FillEvent) (s t : Machine) (law : JobsStandAtNumbers) → IsConsistent s → Steps s e t → Follows s t
step_follows (Draw w) s t law h (inl one) = along s (drawn s w) t (follows_drawn s w h one.0 one.1) one.2
step_follows (Draw w) s t law h (inr (inl one)) = along s (stopped s w) t (follows_stopped s w h one.0 one.1) one.2
step_follows (Draw w) s t law h (inr (inr none)) = along s s t (unchanged s h) none.1
step_follows (Look w level number) s t law h (inl one) =
    along s (looked s w one.0) t (follows_looked s w level number one.0 h one.1) one.2
step_follows (Look w level number) s t law h (inr none) = along s s t (unchanged s h) none.1
step_follows (Install w level number) s t law h (inl one) =
    along s (installed s w level number one.0) t (follows_installed s w level number one.0 law h one.1) one.2
step_follows (Install w level number) s t law h (inr none) = along s s t (unchanged s h) none.1

runs_follow : (es : List FillEvent) (s t : Machine) (law : JobsStandAtNumbers) → IsConsistent s
    → Runs s es t → Follows s t
runs_follow [] s t law h run = along s s t (unchanged s h) run
runs_follow (e ∷ es) s t law h run =
    let first = step_follows e s run.0 law h run.1 in
    let rest = runs_follow es run.0 t law first.consistent run.2 in
    record { plan = rest.plan ∙ first.plan; workers = rest.workers ∙ first.workers; consistent = rest.consistent }

-- one more event
pub runs_more : (es : List FillEvent) (e : FillEvent) (s m t : Machine) → Runs s es m → Steps m e t
    → Runs s (es ++ e ∷ []) t
runs_more [] e s m t is step = (t, subst (λ (x : Machine). Steps x e t) is step, refl)
runs_more (x ∷ xs) e s m t run step = (run.0, run.1, runs_more xs e run.0 m t run.2 step)

-- a list of one value
all_alike : {X : Type 0} (n i : ℕ) (d : X) → get_or (replicate n d) i d ≡ d
all_alike n i d =
    ⊎_elim (λ (lt : i < n). get_or-replicate n i d d lt)
    (λ (le : n ≤ i). get_or_past (replicate n d) i d (omega (arith, length-replicate n d))) (cases_lt i n)

opening_is_consistent : (plan : ProgramForIds) (workers : ℕ) → 1 ≤ workers → IsConsistent (opening plan workers)
opening_is_consistent plan workers some =
    let n : ℕ = job_count plan in
    let s : Machine = opening plan workers in
    let count : length (replicate workers (idle n)) ≡ workers = length-replicate workers (idle n) in
    let each : (P : Worker → Type 0) → P (idle n) → P nobody → (w : ℕ) → P (worker s w) = λ P own past w.
    ⊎_elim (λ (lt : w < workers). subst P (sym (get_or-replicate workers w (idle n) nobody lt)) own)
    (λ (le : workers ≤ w). subst P (sym (get_or_past (replicate workers (idle n)) w nobody (omega (arith, count)))) past)
    (cases_lt w workers) in
    let is_idle : (w : ℕ) → w < length s.workers → worker s w ≡ idle n =
    λ w lt. get_or-replicate workers w (idle n) nobody (omega (arith, count, lt)) in
    let free : (w : ℕ) → (worker s w).hand ≡ None = each (λ v. v.hand ≡ None) refl refl in
    let new : (w job : ℕ) → get_or (worker s w).knows job false ≡ false =
    each (λ v. (job : ℕ) → get_or v.knows job false ≡ false) (λ job. all_alike n job false) (λ job. refl) in
    record {
      cells = record { size = length-replicate n None; filled = λ job b e. absurd (none-some b (sym (all_alike n job None) ∙ e)) };
      some_worker = omega (arith, count);
      marks = λ w lt. ap (λ (v : Worker). length v.knows) (is_idle w lt) ∙ length-replicate n false;
      known = λ w job e. absurd (false≢true (sym (new w job) ∙ e));
      few = omega arith;
      placed = λ job lt. absurd (omega arith);
      one_hand = λ v w job a b. absurd (none-some job (sym (free v) ∙ a));
      below = λ w job a. absurd (none-some job (sym (free w) ∙ a));
      ended = λ w lt e. absurd (false≢true (sym (ap (λ (v : Worker). v.stopped) (is_idle w lt)) ∙ e));
    }

pub replay_follows :
    (es : List FillEvent) (plan : ProgramForIds) (workers : ℕ) (t : Machine) (law : JobsStandAtNumbers) → 1 ≤ workers
    → Runs (opening plan workers) es t
    → Follows (opening plan workers) t
replay_follows es plan workers t law some run =
    runs_follow es (opening plan workers) t law (opening_is_consistent plan workers some) run

pub as_many : (plan : ProgramForIds) (workers : ℕ) (t : Machine) → Follows (opening plan workers) t
    → length t.workers ≡ workers
as_many plan workers t f = f.workers ∙ length-replicate workers (idle (job_count plan))

-- a number with a job in hand is that of a worker
holder : (l : List Worker) (w job : ℕ) → (get_or l w nobody).hand ≡ Some job → w < length l
holder l w job e =
    ⊎_elim (λ (lt : w < length l). lt)
    (λ (le : length l ≤ w). absurd
    (none-some job (ap (λ (v : Worker). v.hand) (sym (get_or_past l w nobody le)) ∙ e)))
    (cases_lt w (length l))

pub filled_when_stopped : (s : Machine) → IsConsistent s → IsFilledWhenStopped s
filled_when_stopped s h all job below =
    ⊎_elim (λ (full : is_full s.cells job). full)
    (λ (held : (w : ℕ) × ((worker s w).hand ≡ Some job)).
    let inside = holder s.workers held.0 job held.1 in
    absurd (none-some job (sym (h.ended held.0 inside (all held.0 inside)).1 ∙ held.1)))
    (h.placed job (let e = (h.ended 0 h.some_worker (all 0 h.some_worker)).0 in omega arith))
