-- What is found is of its input.
use Rattle.std.proofs.Common.{◌≡◌, ℕ, ◌≤◌, List, length, Option, Some, None, sym, subst, arith}
use Rattle.node_program.specs.declared.limits.TheConstants.{MAX_ROUNDS}
use Rattle.win_index.specs.declared.limits.TheConstants.{MAX_IDS}
use Rattle.channel_tables.specs.Laws.{WitnessesAreOnRings}
use Rattle.channel_tables.specs.Tables.{ChannelTable}
use Rattle.channel_tables.specs.declared.separation.Separation.{Separation}
use Rattle.task_words.specs.declared.task.Task.{Task}
use Rattle.reports.specs.Findings.{Fault, Finding}
use Rattle.plan_print.specs.Notes.{IsFaultOf, IsFound}
use Rattle.reports.specs.Report.{IsRefusedOr, told, answered, IsJudgement, good, bad, IsProblemJudgement, solved}
use Rattle.reports.specs.Report.{broken, IsTextRefusal, IsProgramRefusal, text_fault, check_fault}
use Rattle.reports.specs.FormulaReports.{IsFormulaRefusal, IsRefuteReport}
use Rattle.table_formula.specs.Problems as formula
use Rattle.ring_problems.specs.declared.idle.IdlePattern.{IdlePattern}
use Rattle.ring_problems.specs.declared.problem.Problem.{Problem}
use Rattle.ring_problems.specs.Demands.{patterns_of}
use Rattle.ring_problems.specs.Idle.{idle_in}
use Rattle.ring_problems.specs.Problems as problems
use Rattle.reports.specs.Findings as value
use Rattle.reports.specs.ProblemFaults.{problem as numbered}
use Rattle.task_words.specs.Task.{IsRunnable}
use Rattle.plan_print.specs.TaskReport.{IsReport}
use Rattle.plan_print.proofs.Tasks.{by_task}

-- a finding that is this one is of the input if this one is
its : (input : List ℕ) (f value : Finding) → f ≡ value → IsFound input value → IsFound input f
its input f value is found = subst (IsFound input) (sym is) found

-- so is a refusal
its_fault : (input : List ℕ) (fault what : Fault) → fault ≡ what → IsFaultOf input what → IsFaultOf input fault
its_fault input fault what is found = subst (IsFaultOf input) (sym is) found

-- a yes to a problem
in_solved : (input : List ℕ) (tuples : ℕ) (idle : Option IdlePattern) → IsFound input (value.solved tuples idle)
in_solved input tuples None = tt
in_solved input tuples (Some idle) = tt

-- the places of a witness are places of its ring, which is short
in_judgement : WitnessesAreOnRings → (input : List ℕ) (t : ChannelTable) (s : Separation) (f : Finding)
    → t.rounds ≤ MAX_ROUNDS → t.ids ≤ MAX_IDS
    → IsJudgement t s f → IsFound input f
in_judgement placed input t s f few ids (good apart is) = its input f _ is tt
in_judgement placed input t s f few ids (bad ring places channels witness is) =
    let met = placed t s ring places channels witness in
    let long = met.0.long in
    let short = met.0.short in
    let at' = witness.first_place in
    its input f _ is (record { few_rounds = omega (arith, at', few); long = omega (arith, at', long); short = omega (arith, short, ids); first = met.1; second = met.2 })

-- what is found on a problem is of every input
in_problem : (input : List ℕ) (t : ChannelTable) (problem : Problem) (f : Finding) → IsProblemJudgement t problem f
    → IsFound input f
in_problem input t problem f (solved everywhere is) =
    its input f _ is (in_solved input (length (problems.tuples t (patterns_of problem))) (idle_in (patterns_of problem) t.channels))
in_problem input t problem f (broken ring place channels pattern witness is) = its input f _ is tt

-- what is found by a refusal or an answer is of the input if both are
in_either : (input : List ℕ) (refusal : Fault → Type 0) (answer : Finding → Type 0) (f : Finding)
    → ((fault : Fault) → refusal fault → IsFaultOf input fault)
    → (answer f → IsFound input f) → IsRefusedOr refusal answer f → IsFound input f
in_either input refusal answer f of on (told fault is same) = its input f _ same (of fault is)
in_either input refusal answer f of on (answered said) = on said

in_text : (input : List ℕ) (fault : Fault) → IsTextRefusal input fault → IsFaultOf input fault
in_text input fault refused = its_fault input fault _ refused.is refused.first

in_program_text : (m : ℕ) (input : List ℕ) (fault : Fault) → IsProgramRefusal m input fault → IsFaultOf input fault
in_program_text m input fault (text_fault refused) = in_text input fault refused
in_program_text m input fault (check_fault p g reads first is) = its_fault input fault _ is tt

-- numbers of which there is no formula are of few rounds
in_refusal : (input : List ℕ) (p : formula.Problem) → p.rounds ≤ MAX_ROUNDS → (fault : Fault) → IsFormulaRefusal p fault
    → IsFaultOf input fault
in_refusal input p few fault refusal = its_fault input fault _ refusal.is few

in_refutation : (input text : List ℕ) (p : formula.Problem) (f : Finding) → p.rounds ≤ MAX_ROUNDS
    → IsRefuteReport p text f → IsFound input f
in_refutation input text p f few =
    in_either input _ _ f (in_refusal input p few)
    (λ has. in_either input _ _ f (λ fault none. its_fault input fault _ none.is none.known)
    (λ said. its input f _ said.1 tt) has.1)

-- findings that are so are of the input
abbrev AreOf : List ℕ → (Finding → Type 0) → Type 0
AreOf input is = (f : Finding) → is f → IsFound input f

pub found : WitnessesAreOnRings → (task : Task) → IsRunnable task → (input : List ℕ) (f : Finding)
    → IsReport task input f → IsFound input f
found placed task able input =
    by_task IsRunnable input (AreOf input)
    (λ value of f is. its input f value is of)
    (λ t s few f. in_judgement placed input t s f few.0 few.1)
    (λ t problem f. in_problem input t problem f)
    (λ p x segments f. in_either input _ _ f (λ fault none. its_fault input fault _ none.1 tt) (λ said. its input f _ said.1 tt))
    (λ b p x place f. in_either input _ _ f (λ fault none. its_fault input fault _ none.1 tt) (λ said. its input f _ said.1 tt))
    (λ t x ring f met. its input f _ met.is tt)
    (λ m t x is few each f. in_either input _ _ f (λ fault none. its_fault input fault _ none.is (few.0, none.first)) (λ said. each said.0 f said.1))
    (λ m is each f. in_either input _ _ f (in_program_text m input)
    (λ said. each said.0 (said.1.limits.rounds, said.2.shape.ids.few) f said.3))
    (λ is each f. in_either input _ _ f (λ fault none. its_fault input fault _ none.is (none.known, none.first))
    (λ said. let begun = said.2.1.table.begun in each said.0 said.1 (begun.few_rounds, begun.shape.ids.few) f said.3))
    (λ f. in_either input _ _ f (in_text input) (λ said. its input f _ said.2 tt))
    (λ m t channels demand able f.
    in_either input _ _ f (in_refusal input (numbered m t channels demand) able.0.few_rounds)
    (λ said. its input f _ said.1 tt))
    (λ m t channels demand able f. in_refutation input input (numbered m t channels demand) f able.0.few_rounds)
    task able
