-- A tree shows each part of an expression that counts, and each branch that is not taken.
use Rattle.std.proofs.Common.{◌≡◌, ◌==◌, if◌then◌else◌, Bool, false, true, ◌⊎◌, inl, inr, ⊎_elim, ℕ, zero, suc, ◌+◌}
use Rattle.std.proofs.Common.{List, [], ◌∷◌, ◌++◌, length, slice_get, refl, sym, subst, ◌∙◌, length-append}
use Rattle.std.proofs.Common.{zero-add, arith}
use Rattle.std.specs.List.{Contains}
use Rattle.std.proofs.lemmas.List.Elements.{Contains-append_left, Contains-append_right, Contains-append_cases}
use Rattle.std.specs.Prelude.{Some}
use Rattle.node_program.specs.Term.{Term, One, Two, Choose}
use Rattle.node_program.specs.Value.{Env, value}
use Rattle.value_trees.specs.Parts.{Part, counting, untaken, Counts, IsUntaken, line_count}
use Rattle.value_trees.specs.Trees.{counted, folded, parts_at, tree_lines}
use Rattle.value_trees.specs.Laws.{TreesShowParts}

-- what the second branch x and the last one y of an `if` give, where the last one is taken if t
abbrev branches : Bool → Part → Part → List Part → List Part → List Part
branches t x y xs ys = if t then x ∷ ys else xs ++ y ∷ []

-- as many lines as the count says
branches_count : (t : Bool) (p q : Part) (ps qs : List Part) (m n : ℕ) → length ps ≡ m → length qs ≡ n →
    length (branches t p q ps qs) ≡ 1 + (if t then n else m)
branches_count true p q ps qs m n first last = omega (arith, last)
branches_count false p q ps qs m n first last = omega (arith, length-append ps (q ∷ []), first)

count_is : (env : Env) (d : ℕ) (e : Term) → length (parts_at env d e) ≡ line_count env e
count_is env d (One o x) = omega (arith, count_is env (d + 1) x)
count_is env d (Two o x y) =
    omega (
      arith,
      length-append (parts_at env (d + 1) x) (parts_at env (d + 1) y),
      count_is env (d + 1) x,
      count_is env (d + 1) y,
    )
count_is env d (Choose c x y) =
    let t = value c env == 0 in
    let xs = parts_at env (d + 1) x in
    let ys = parts_at env (d + 1) y in
    let p = folded (d + 1) x in
    let q = folded (d + 1) y in
    omega (
      arith,
      length-append (parts_at env (d + 1) c) (branches t p q xs ys),
      count_is env (d + 1) c,
      branches_count t p q xs ys _ _ (count_is env (d + 1) x) (count_is env (d + 1) y),
    )
count_is env d e = refl

-- elements of a list
tail_in : {X : Type 0} (x : X) (xs : List X) (y : X) → Contains xs y → Contains (x ∷ xs) y
tail_in x xs y among = Contains-append_right (x ∷ []) xs y among

cons_cases : {X : Type 0} (x : X) (xs : List X) (y : X) → Contains (x ∷ xs) y → (x ≡ y) ⊎ Contains xs y
cons_cases x xs y (zero, within, is) = inl is
cons_cases x xs y (suc k, within, is) = inr (k, omega arith, is)

none_in : {X : Type 0} (y : X) → Contains [] y → ⊥
none_in y (k, within, is) = absurd (omega arith)

only : {X : Type 0} (x y : X) → Contains (x ∷ []) y → x ≡ y
only x y among = ⊎_elim (λ is. is) (λ none. absurd (none_in y none)) (cons_cases x [] y among)

first_in : {X : Type 0} (x : X) (xs : List X) → Contains (x ∷ xs) x
first_in x xs = (0, omega arith, refl)

own_in : (env : Env) (d : ℕ) (e : Term) → Contains (parts_at env d e) (counted d e)
own_in env d (One o x) = first_in (counted d (One o x)) _
own_in env d (Two o x y) = first_in (counted d (Two o x y)) _
own_in env d (Choose c x y) = first_in (counted d (Choose c x y)) _
own_in env d e = first_in (counted d e) []

-- the parts of the branch that is taken, and the other branch, are among those of both
taken_in : (env : Env) (d : ℕ) (t : Bool) (x y : Term) (p : Part) → Contains (parts_at env d (if t then y else x)) p →
    Contains (branches t (folded d x) (folded d y) (parts_at env d x) (parts_at env d y)) p
taken_in env d true x y p has = tail_in (folded d x) (parts_at env d y) p has
taken_in env d false x y p has = Contains-append_left (parts_at env d x) (folded d y ∷ []) p has

other_in : (env : Env) (d : ℕ) (t : Bool) (x y : Term) →
    Contains (branches t (folded d x) (folded d y) (parts_at env d x) (parts_at env d y))
    (folded d (if t then x else y))
other_in env d true x y = first_in (folded d x) (parts_at env d y)
other_in env d false x y =
    Contains-append_right (parts_at env d x) (folded d y ∷ []) (folded d y) (first_in (folded d y) [])

-- the parts of an operand that counts are among those of the expression
below : (env : Env) (d : ℕ) (e operand : Term) (p : Part) → Contains (counting env e) operand →
    Contains (parts_at env (d + 1) operand) p → Contains (parts_at env d e) p
below env d (One o x) operand p among has =
    tail_in (counted d (One o x)) (parts_at env (d + 1) x) p
    (subst (λ e. Contains (parts_at env (d + 1) e) p) (sym (only x operand among)) has)
below env d (Two o x y) operand p among has =
    let xs = parts_at env (d + 1) x in
    let ys = parts_at env (d + 1) y in
    tail_in (counted d (Two o x y)) (xs ++ ys) p
    (⊎_elim (λ is. Contains-append_left xs ys p (subst (λ e. Contains (parts_at env (d + 1) e) p) (sym is) has))
    (λ last.
    Contains-append_right xs ys p (subst (λ e. Contains (parts_at env (d + 1) e) p) (sym (only y operand last)) has))
    (cons_cases x (y ∷ []) operand among))
below env d (Choose c x y) operand p among has =
    let t = value c env == 0 in
    let cs = parts_at env (d + 1) c in
    let both =
    branches t (folded (d + 1) x) (folded (d + 1) y) (parts_at env (d + 1) x) (parts_at env (d + 1) y) in
    let taken : Term = if t then y else x in
    tail_in (counted d (Choose c x y)) (cs ++ both) p
    (⊎_elim (λ is. Contains-append_left cs both p (subst (λ e. Contains (parts_at env (d + 1) e) p) (sym is) has))
    (λ last.
    Contains-append_right cs both p
    (taken_in env (d + 1) t x y p
    (subst (λ e. Contains (parts_at env (d + 1) e) p) (sym (only taken operand last)) has)))
    (cons_cases c (taken ∷ []) operand among))
below env d e operand p among has = absurd (none_in operand among)

-- and so is a branch that is not taken
untaken_in : (env : Env) (d : ℕ) (e part : Term) → Contains (untaken env e) part →
    Contains (parts_at env d e) (folded (d + 1) part)
untaken_in env d (Choose c x y) part among =
    let t = value c env == 0 in
    let cs = parts_at env (d + 1) c in
    let both =
    branches t (folded (d + 1) x) (folded (d + 1) y) (parts_at env (d + 1) x) (parts_at env (d + 1) y) in
    let other : Term = if t then x else y in
    subst (λ e. Contains (parts_at env d (Choose c x y)) (folded (d + 1) e)) (only other part among)
    (tail_in (counted d (Choose c x y)) (cs ++ both) (folded (d + 1) other)
    (Contains-append_right cs both (folded (d + 1) other) (other_in env (d + 1) t x y)))
untaken_in env d e part among = absurd (none_in part among)

-- the parts of what counts are among those of the expression
far_below : (env : Env) (depth d : ℕ) (part e : Term) (p : Part) → Counts env depth part e →
    Contains (parts_at env (d + depth) part) p → Contains (parts_at env d e) p
far_below env zero d part e p is has =
    let same : d + 0 ≡ d = omega arith in
    subst (λ ns. Contains ns p) (λ i. parts_at env (same i) (is i)) has
far_below env (suc depth) d part e p (operand, among, is) has =
    let same : d + suc depth ≡ d + 1 + depth = omega arith in
    below env d e operand p among
    (far_below env depth (d + 1) part operand p is (subst (λ k. Contains (parts_at env k part) p) same has))

-- the part is listed as what it is
counts_listed : (env : Env) (depth d : ℕ) (part e : Term) → Counts env depth part e →
    Contains (parts_at env d e) (counted (d + depth) part)
counts_listed env depth d part e is =
    far_below env depth d part e (counted (d + depth) part) is (own_in env (d + depth) part)

untaken_listed : (env : Env) (depth d : ℕ) (part e : Term) → IsUntaken env depth part e →
    Contains (parts_at env d e) (folded (d + depth) part)
untaken_listed env zero d part e is = absurd is
untaken_listed env (suc depth) d part e (choice, is, among) =
    let same : d + depth + 1 ≡ d + suc depth = omega arith in
    subst (λ k. Contains (parts_at env d e) (folded k part)) same
    (far_below env depth d choice e (folded (d + depth + 1) part) is (untaken_in env (d + depth) choice part among))

-- what a listed part is
abbrev Stands : Env → Bool → ℕ → Term → Term → Type 0
Stands env true depth part e = Counts env depth part e
Stands env false depth part e = IsUntaken env depth part e

abbrev IsListed : Env → ℕ → Term → Part → Type 0
IsListed env d e p = (depth : ℕ) × (p.depth ≡ d + depth) × Stands env p.counts depth p.term e

itself : (env : Env) (d : ℕ) (e : Term) (p : Part) → counted d e ≡ p → IsListed env d e p
itself env d e p is = subst (IsListed env d e) is (0, omega arith, refl)

one_deeper : (env : Env) (counts : Bool) (depth : ℕ) (part operand e : Term) → Contains (counting env e) operand →
    Stands env counts depth part operand → Stands env counts (suc depth) part e
one_deeper env true depth part operand e among is = (operand, among, is)
one_deeper env false zero part operand e among is = absurd is
one_deeper env false (suc depth) part operand e among (choice, is, other) = (choice, (operand, among, is), other)

deeper : (env : Env) (d : ℕ) (e operand : Term) (p : Part) → Contains (counting env e) operand →
    IsListed env (d + 1) operand p → IsListed env d e p
deeper env d e operand p among is =
    (suc is.0, is.1 ∙ omega arith, one_deeper env p.counts is.0 p.term operand e among is.2)

other_listed : (env : Env) (d : ℕ) (e part : Term) (p : Part) → Contains (untaken env e) part →
    folded (d + 1) part ≡ p → IsListed env d e p
other_listed env d e part p among is = subst (IsListed env d e) is (1, refl, (e, refl, among))

-- a part of the branches is the one that is not taken, or of the one that is
branch_cases : (env : Env) (d : ℕ) (t : Bool) (x y : Term) (p : Part) →
    Contains (branches t (folded d x) (folded d y) (parts_at env d x) (parts_at env d y)) p →
    (folded d (if t then x else y) ≡ p) ⊎ Contains (parts_at env d (if t then y else x)) p
branch_cases env d true x y p has = cons_cases (folded d x) (parts_at env d y) p has
branch_cases env d false x y p has =
    ⊎_elim (λ in_x. inr in_x) (λ last. inl (only (folded d y) p last))
    (Contains-append_cases (parts_at env d x) (folded d y ∷ []) p has)

taken_listed : (env : Env) (d : ℕ) (t : Bool) (x y : Term) (p : Part) →
    (Contains (parts_at env d x) p → IsListed env d x p) → (Contains (parts_at env d y) p → IsListed env d y p) →
    Contains (parts_at env d (if t then y else x)) p → IsListed env d (if t then y else x) p
taken_listed env d true x y p first last has = last has
taken_listed env d false x y p first last has = first has

are_parts : (env : Env) (d : ℕ) (e : Term) (p : Part) → Contains (parts_at env d e) p → IsListed env d e p
are_parts env d (One o x) p has =
    let e : Term = One o x in
    ⊎_elim (itself env d e p) (λ in_x. deeper env d e x p (0, omega arith, refl) (are_parts env (d + 1) x p in_x))
    (cons_cases (counted d e) (parts_at env (d + 1) x) p has)
are_parts env d (Two o x y) p has =
    let e : Term = Two o x y in
    ⊎_elim (itself env d e p) (λ later.
    ⊎_elim (λ in_x. deeper env d e x p (0, omega arith, refl) (are_parts env (d + 1) x p in_x))
    (λ in_y. deeper env d e y p (1, omega arith, refl) (are_parts env (d + 1) y p in_y))
    (Contains-append_cases (parts_at env (d + 1) x) (parts_at env (d + 1) y) p later))
    (cons_cases (counted d e) (parts_at env (d + 1) x ++ parts_at env (d + 1) y) p has)
are_parts env d (Choose c x y) p has =
    let e : Term = Choose c x y in
    let t = value c env == 0 in
    let taken : Term = if t then y else x in
    let other : Term = if t then x else y in
    let both =
    branches t (folded (d + 1) x) (folded (d + 1) y) (parts_at env (d + 1) x) (parts_at env (d + 1) y) in
    ⊎_elim (itself env d e p) (λ later.
    ⊎_elim (λ in_c. deeper env d e c p (0, omega arith, refl) (are_parts env (d + 1) c p in_c)) (λ branch.
    ⊎_elim (other_listed env d e other p (0, omega arith, refl)) (λ in_taken.
    deeper env d e taken p (1, omega arith, refl)
    (taken_listed env (d + 1) t x y p (are_parts env (d + 1) x p) (are_parts env (d + 1) y p) in_taken))
    (branch_cases env (d + 1) t x y p branch))
    (Contains-append_cases (parts_at env (d + 1) c) both p later))
    (cons_cases (counted d e) (parts_at env (d + 1) c ++ both) p has)
are_parts env d e p has =
    ⊎_elim (itself env d e p) (λ none. absurd (none_in p none)) (cons_cases (counted d e) [] p has)

-- the first is the whole expression
first_is : (env : Env) (e : Term) → slice_get (parts_at env 0 e) 0 ≡ Some (counted 0 e)
first_is env (One o x) = refl
first_is env (Two o x y) = refl
first_is env (Choose c x y) = refl
first_is env e = refl

pub trees_show : TreesShowParts
unfolding tree_lines
trees_show b env e = record {
  parts = parts_at env 0 e;
  are_counting = λ depth term. (
    λ has.
        let is = are_parts env 0 e (counted depth term) has in
        subst (λ k. Counts env k term e) (sym (is.1 ∙ zero-add is.0)) is.2,
    λ is.
        subst (λ k. Contains (parts_at env 0 e) (counted k term)) (zero-add depth)
        (counts_listed env depth 0 term e is),
  );
  are_untaken = λ depth term. (
    λ has.
        let is = are_parts env 0 e (folded depth term) has in
        subst (λ k. IsUntaken env k term e) (sym (is.1 ∙ zero-add is.0)) is.2,
    λ is.
        subst (λ k. Contains (parts_at env 0 e) (folded k term)) (zero-add depth)
        (untaken_listed env depth 0 term e is),
  );
  as_many = count_is env 0 e;
  first = first_is env e;
  whole = refl;
}
