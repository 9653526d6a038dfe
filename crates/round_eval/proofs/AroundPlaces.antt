-- Locality: the line of the window at a place of a ring holds the states of the places around it.
use Rattle.std.proofs.Common.{◌≡◌, ℕ, zero, suc, ◌+◌, ◌-◌, ◌*◌, ◌%◌, ◌<◌, List, length, sym, ap, ◌∙◌, arith}
use Rattle.std.proofs.Math.Nat.{mod-add-mod, add-mod_right, mod-eq_of_lt}
use Rattle.node_program.specs.Term.{ProgramTree}
use Rattle.node_program.specs.Node.{start}
use Rattle.node_program.specs.GlobalRounds.{left_of, right_of, state}
use Rattle.win_index.specs.Arcs.{arc}
use Rattle.win_index.specs.Laws.{LengthOfArcs, ItemsOfArcs}
use Rattle.round_eval.specs.Line.{between, item, line, middle_state}
use Rattle.round_eval.specs.WindowLaws.{Locality}
use Rattle.round_eval.proofs.Lines.{line_is}

-- the neighbours of place a + 1, modulo the ring's length
left_place : (x : List ℕ) (a : ℕ) → 0 < length x → left_of x ((a + 1) % length x) ≡ a % length x
left_place x a some =
    let n : ℕ = length x in
    let around : (a + 1) % n + n - 1 ≡ (a + 1) % n + (n - 1) = omega arith in
    let turn : a + 1 + (n - 1) ≡ a + n = omega arith in
    ap (λ b. b % n) around ∙ mod-add-mod (a + 1) n (n - 1) ∙ ap (λ b. b % n) turn ∙ add-mod_right a n

right_place : (x : List ℕ) (a : ℕ) → right_of x ((a + 1) % length x) ≡ (a + 2) % length x
right_place x a =
    let next : a + 1 + 1 ≡ a + 2 = omega arith in
    mod-add-mod (a + 1) (length x) 1 ∙ ap (λ b. b % length x) next

-- a state after one more round, from the states of three neighbouring places
state_next :
    (p : ProgramTree) (x : List ℕ) (k a : ℕ) → 0 < length x
    → state p x (suc k) ((a + 1) % length x)
    ≡ between p k (state p x k (a % length x)) (state p x k ((a + 1) % length x)) (state p x k ((a + 2) % length x))
state_next p x k a some = rw (left_place x a some, right_place x a)

module _ (length-arc : LengthOfArcs) (get_or-arc : ItemsOfArcs) where
  -- after k rounds, item j of the line of an arc is the state of place start + k + j
  line_of_arc :
      (p : ProgramTree) (x : List ℕ) (first count k j : ℕ) → 0 < length x → j + 2 * k < count
      → item (line p (arc x first count) k) j ≡ state p x k ((first + k + j) % length x)
  line_of_arc p x first count k j some lt =
      let size = length-arc x first count in
      line_is p (arc x first count) (λ i j. state p x i ((first + i + j) % length x))
      (λ j small.
      let place : first + zero + j ≡ first + j = omega arith in
      rw place (ap (start p) (get_or-arc x first count j 0 (omega (arith, size)))))
      (λ i j small.
      let a : ℕ = first + i + j in
      let own : first + i + (j + 1) ≡ a + 1 = omega arith in
      let right : first + i + (j + 2) ≡ a + 2 = omega arith in
      let place : first + suc i + j ≡ a + 1 = omega arith in
      rw (own, right, place) (state_next p x i a some))
      k j (omega (arith, size))

  mod_inside : (i n : ℕ) → i < n → (i + n) % n ≡ i
  mod_inside i n lt = add-mod_right i n ∙ mod-eq_of_lt lt

  pub around : Locality
  unfolding middle_state
  around p m t r i x ring le lt =
      let n : ℕ = length x in
      let long = ring.long in
      let whole : i + n - r + r + 0 ≡ i + n = omega arith in
      let here = line_of_arc p x (i + n - r) (2 * r + 1) r 0 (omega arith) (omega arith) in
      sym (here ∙ ap (λ b. state p x r (b % n)) whole ∙ ap (state p x r) (mod_inside i n lt))
