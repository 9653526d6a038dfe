-- Outcomes that are taken from a list one by one.
use Rattle.std.proofs.Common.{◌≡◌, ℕ, ◌+◌, ◌<◌, List, [], ◌∷◌, ◌++◌, All, Some, Ok, Err, refl, sym, ◌∙◌, ap, length}
use Rattle.std.proofs.Common.{length-append, append-nil, get_or, subst, arith}
use Rattle.std.specs.Prelude.{Option, IsOk, Contains, MatchOption}
use Rattle.std.proofs.lemmas.List.{get_or_append_left, append_assoc, get_or-append-add}
use Rattle.std.proofs.lemmas.List.Elements.{All-push, Contains-push, Contains-append_right}
use Rattle.std.proofs.lemmas.Option.{slice_get-get_or}
use Rattle.shared_memo.specs.declared.pool.job_fault.JobFault.{JobFault}
use Rattle.shared_memo.specs.declared.pool.worker_jobs.WorkerOutcome.{WorkerOutcome}
use Rattle.shared_memo.specs.Outcomes.{outcome_worker, IsLowestFault, OneKnows}
use Rattle.shared_memo.specs.Tickets.{AreNumbered}

-- of all outcomes these are taken, none of which is a fault, and one of them knows this, if any is taken
pub record Taken {K : Type 0} (all done rest : List (WorkerOutcome K)) (last : Option K) : Type 0 where
  pub split : all ≡ done ++ rest
  pub ok : All (λ outcome. IsOk outcome.answer) done
  pub one : MatchOption last (done ≡ []) (OneKnows done)

-- one more is taken
pub taken_more :
    {K : Type 0} (all done rest : List (WorkerOutcome K)) (outcome : WorkerOutcome K) (last : Option K) (known : K)
    → Taken all done (outcome ∷ rest) last → outcome.answer ≡ Ok known
    → Taken all (done ++ outcome ∷ []) rest (Some known)
taken_more all done rest outcome last known taken is =
    let ok : IsOk outcome.answer = rw is refl in
    record {
      split = taken.split ∙ sym (append_assoc done (outcome ∷ []) rest);
      ok = All-push (λ outcome. IsOk outcome.answer) done outcome taken.ok ok;
      one = (outcome, Contains-push done outcome, is);
    }

-- the next one is a fault
pub taken_fault :
    {K : Type 0} (all done rest : List (WorkerOutcome K)) (outcome : WorkerOutcome K) (last : Option K)
    (fault : JobFault K)
    → AreNumbered all outcome_worker → Taken all done (outcome ∷ rest) last → outcome.answer ≡ Err fault
    → IsLowestFault all fault
taken_fault all done rest outcome last fault numbered taken is =
    let at : ℕ = length done in
    let split = taken.split in
    let long : at < length all = omega (arith, ap length split, length-append done (outcome ∷ rest)) in
    let here : Contains all outcome =
    rw split (Contains-append_right done (outcome ∷ rest) outcome (0, omega arith, refl)) in
    let plus : at + 0 ≡ at = omega arith in
    let item : get_or all at outcome ≡ outcome =
    rw split (rw plus at (get_or-append-add done (outcome ∷ rest) 0 outcome)) in
    let number : outcome_worker outcome ≡ at =
    numbered at outcome (slice_get-get_or all at outcome long ∙ ap Some item) in (
      outcome,
      record {
        one_of = here;
        fault_is = is;
        none_lower = λ k d within less.
            let own : outcome_worker (get_or all k d) ≡ k =
            numbered k (get_or all k d) (slice_get-get_or all k d within) in
            let below : k < at = omega (arith, own, number, less) in
            let same : get_or all k d ≡ get_or done k d =
            rw split (get_or_append_left done (outcome ∷ rest) d k below) in
            subst (λ o. IsOk o.answer) (sym same) (taken.ok k d below);
      },
    )

-- all are taken
pub taken_all :
    {K : Type 0} (all done : List (WorkerOutcome K)) (last : Option K) → Taken all done [] last
    → All (λ outcome. IsOk outcome.answer) all × MatchOption last (all ≡ []) (OneKnows all)
taken_all all done last taken =
    let same : all ≡ done = taken.split ∙ append-nil done in
    rw same (taken.ok, taken.one)
