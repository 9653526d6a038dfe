-- The expressions of a program are small: those of each of its parts.
use Rattle.std.proofs.Common.{◌≡◌, zero, suc, ◌+◌, List, [], ◌∷◌, ◌++◌, length, map, subst, arith}
use Rattle.std.specs.Prelude.{All}
use Rattle.std.proofs.lemmas.List.{get_or_append_left, get_or-append-add, get_or-map, length-append, length-map}
use Rattle.node_program.specs.Limits.{IsSmall, AreSmall, IsSmallRound, IsWithinLimits}
use Rattle.node_program.specs.Term.{ProgramTree, term_of, step_of, terms_of_step, step_terms}
use Rattle.node_program.specs.declared.tree.Expr.{Expr}
use Rattle.node_program.specs.declared.tree.Round.{Round}

-- what holds of each element of a list holds of the elements of its parts
all_left : {X : Type 0} (P : X → Type 0) (xs ys : List X) → All P (xs ++ ys) → All P xs
all_left P xs ys all k d lt =
    subst P (get_or_append_left xs ys d k lt) (all k d (omega (arith, length-append xs ys)))

all_right : {X : Type 0} (P : X → Type 0) (xs ys : List X) → All P (xs ++ ys) → All P ys
all_right P xs ys all k d lt =
    subst P (get_or-append-add xs ys k d) (all (length xs + k) d (omega (arith, length-append xs ys)))

-- what holds of the images of a list holds at its elements
all_of_images : {X Y : Type 0} (P : Y → Type 0) (f : X → Y) (xs : List X) → All P (map f xs) → All (λ x. P (f x)) xs
all_of_images P f xs all k d lt =
    subst P (get_or-map f xs k d (f d) lt) (all k (f d) (omega (arith, length-map xs f)))

-- the expressions of rounds are small if those of each round are
round_small : (round : Round) → All IsSmall (terms_of_step (step_of round)) → IsSmallRound round
round_small round all = record {
  left = all 0 (step_of round).left (omega arith);
  right = all 1 (step_of round).left (omega arith);
  next = all_of_images IsSmall term_of round.next.items
      (all_right IsSmall ((step_of round).left ∷ (step_of round).right ∷ []) (map term_of round.next.items) all);
}

rounds_small : (rounds : List Round) → All IsSmall (step_terms (map step_of rounds)) → All IsSmallRound rounds
rounds_small [] all k d lt = absurd (omega arith)
rounds_small (s ∷ rounds) all zero d lt =
    round_small s (all_left IsSmall (terms_of_step (step_of s)) (step_terms (map step_of rounds)) all)
rounds_small (s ∷ rounds) all (suc k) d lt =
    rounds_small rounds (all_right IsSmall (terms_of_step (step_of s)) (step_terms (map step_of rounds)) all) k d (omega arith)

pub start_small : (p : ProgramTree) (start : List Expr) → IsWithinLimits p → map term_of start ≡ p.start
    → AreSmall start
start_small p start limits same =
    all_of_images IsSmall term_of start
    (rw same (all_left IsSmall p.start (step_terms p.steps ++ p.finish ∷ []) limits.small))

pub steps_small :
    (p : ProgramTree) (rounds : List Round) → IsWithinLimits p → map step_of rounds ≡ p.steps → All IsSmallRound rounds
steps_small p rounds limits same =
    rounds_small rounds
    (rw same (all_left IsSmall (step_terms p.steps) (p.finish ∷ []) (all_right IsSmall p.start (step_terms p.steps ++ p.finish ∷ []) limits.small)))

pub finish_small : (p : ProgramTree) → IsWithinLimits p → IsSmall p.finish
finish_small p limits =
    all_right IsSmall (step_terms p.steps) (p.finish ∷ [])
    (all_right IsSmall p.start (step_terms p.steps ++ p.finish ∷ []) limits.small)
    0 p.finish (omega arith)
