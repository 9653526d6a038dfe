-- Lists of one item of each worker, and what holds of an outcome.
use Rattle.std.proofs.Common.{◌≡◌, ℕ, List, [], ◌∷◌, ◌++◌, All, suc, zero, sym, ap, ◌∙◌, length, length-append}
use Rattle.std.proofs.Common.{slice_get, arith}
use Rattle.std.specs.Prelude.{Result, Ok, Err, IfOk, IfErr, MatchResult}
use Rattle.std.proofs.lemmas.Option.{same_Some}
use Rattle.shared_memo.specs.declared.desk.Ticket.{Ticket}
use Rattle.shared_memo.specs.Tickets.{worker_of, AreNumbered}

-- what holds of all items of a list, by its first one
pub all_first : {X : Type 0} (P : X → Type 0) (x : X) (all xs : List X) → all ≡ x ∷ xs → All P all → P x × All P xs
all_first P x all xs is h =
    let own : All P (x ∷ xs) = rw is at h in (own 0 x (omega arith), λ k d below. own (suc k) d (omega arith))

-- the only ticket is that of worker 0
pub only_ticket :
    (tickets rest : List Ticket) (ticket : Ticket) → AreNumbered tickets worker_of → length tickets ≡ 1
    → tickets ≡ rest ++ ticket ∷ [] → worker_of ticket ≡ 0
only_ticket tickets [] ticket numbered one is = numbered 0 ticket (ap (λ l. slice_get l 0) is)
only_ticket tickets (t ∷ rest) ticket numbered one is =
    absurd (omega (arith, ap length is, length-append rest (ticket ∷ [])))

-- a list of one item, which has the number 0
pub one_numbered : {W : Type 0} (number : W → ℕ) (item : W) → number item ≡ 0 → AreNumbered (item ∷ []) number
one_numbered number item first zero w is = ap number (sym (same_Some item w is)) ∙ first
one_numbered number item first (suc k) w is = cc

-- what holds of a result, by what holds of each of its cases
pub match_result : {K E : Type 0} (P : K → Type 0) (Q : E → Type 0) (result : Result K E) → IfOk result P
    → IfErr result Q → MatchResult result P Q
match_result P Q (Ok value) ok err = ok
match_result P Q (Err fault) ok err = err
