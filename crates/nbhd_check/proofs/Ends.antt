-- Lists by their first two and their last two elements, and the middle between these.
use Rattle.std.proofs.Common.{◌≡◌, ◌≢◌, ℕ, zero, suc, ◌+◌, ◌<◌, ◌≤◌, false, eqb, List, [], ◌∷◌, ◌++◌, length, get_or}
use Rattle.std.proofs.Common.{take, drop, Contains, sym, ap, ◌∙◌, arith, refl}
use Rattle.std.proofs.lemmas.Bool.{ne_eqb}
use Rattle.std.proofs.lemmas.List.{get_or_default, append_assoc, take_all}
use Rattle.std.proofs.lemmas.List.Elements.{All-cons}
use Rattle.std.proofs.lemmas.List.Folds.{list_any-append}
use Rattle.std.proofs.lemmas.List.Kept.{AllPairs-cons}
use Rattle.win_index.specs.Windows.{is_used, IsWindow}
use Rattle.win_index.proofs.Windows.{slice_window, push_window, lacks_from_differs}

-- a list by its last two elements
pub by_last : (n : ℕ) (list : List ℕ) → length list ≡ n + 2
    → list ≡ take n list ++ get_or list n 0 ∷ get_or list (n + 1) 0 ∷ []
by_last zero (x ∷ y ∷ []) size = refl
by_last zero [] size = absurd (omega arith)
by_last zero (x ∷ []) size = absurd (omega arith)
by_last zero (x ∷ y ∷ z ∷ list) size = absurd (omega arith)
by_last (suc n) [] size = absurd (omega arith)
by_last (suc n) (x ∷ list) size =
    let next : suc n + 1 ≡ suc (n + 1) = omega arith in
    ap (λ l. x ∷ l) (by_last n list (omega arith))
    ∙ ap (λ k. x ∷ (take n list ++ get_or list n 0 ∷ get_or (x ∷ list) k 0 ∷ [])) (sym next)

-- a list by its first two elements
pub by_first : (list : List ℕ) → 2 ≤ length list → list ≡ get_or list 0 0 ∷ get_or list 1 0 ∷ drop 2 list
by_first [] size = absurd (omega arith)
by_first (x ∷ []) size = absurd (omega arith)
by_first (x ∷ y ∷ list) size = refl

-- two identifiers before a window that lacks both
pub window_before : (k m a b : ℕ) (window : List ℕ) → IsWindow k m window → a < m → b < m → a ≢ b → ¬ Contains window a
    → ¬ Contains window b
    → IsWindow (k + 2) m (a ∷ b ∷ window)
window_before k m a b window is below_a below_b other lacks_a lacks_b =
    let size = is.size in
    let lacks : (x : ℕ) → ¬ Contains window x → (i d : ℕ) → i < length window
    → x ≢ get_or window i d = λ x none i d within same.
    none (i, within, get_or_default window i x d within ∙ sym same) in
    record {
      size = omega arith;
      below = All-cons (λ x. x < m) a (b ∷ window) below_a (All-cons (λ x. x < m) b window below_b is.below);
      distinct = AllPairs-cons (λ x y. x ≢ y) a (b ∷ window)
          (All-cons (λ x. a ≢ x) b window other (lacks a lacks_a))
          (AllPairs-cons (λ x y. x ≢ y) b window (lacks b lacks_b) is.distinct);
    }

-- the first two identifiers of a window moved to its end, in either order
pub push_two : (k m a b : ℕ) (z : List ℕ) → IsWindow k m z → a < m → b < m → is_used z a ≡ false
    → is_used z b ≡ false → a ≢ b
    → IsWindow (suc (suc k)) m (z ++ a ∷ b ∷ [])
push_two k m a b z is in_a in_b free_a free_b other =
    let free : is_used (z ++ a ∷ []) b ≡ false =
    rw (list_any-append (λ w. eqb w b) z (a ∷ []), free_b, ne_eqb a b other) refl in
    rw (append_assoc z (a ∷ []) (b ∷ [])) at
    (push_window (suc k) m b (z ++ a ∷ []) (push_window k m a z is in_a free_a) in_b free)

pub window_moved : (k m a b : ℕ) (z : List ℕ) → IsWindow k m (a ∷ b ∷ z)
    → IsWindow k m (z ++ a ∷ b ∷ []) × IsWindow k m (z ++ b ∷ a ∷ [])
window_moved k m a b z is =
    let size = is.size in
    let rest = slice_window m k 2 (length z) (a ∷ b ∷ z) is (omega arith) in
    let z_is = rw (take_all (length z) z (omega arith)) at rest in
    let free = λ (i : ℕ) (lt : i < 2). lacks_from_differs z (get_or (a ∷ b ∷ z) i 0) (λ j within e.
    is.distinct i (suc (suc j)) 0 (omega arith) (omega arith) (sym e)) in
    let other : a ≢ b = is.distinct 0 1 0 (omega arith) (omega arith) in
    let len : suc (suc (length z)) ≡ k = omega arith in
    let in_a = is.below 0 0 (omega arith) in
    let in_b = is.below 1 0 (omega arith) in (
      rw len at (push_two (length z) m a b z z_is in_a in_b (free 0 (omega arith)) (free 1 (omega arith)) other),
      rw len at (push_two (length z) m b a z z_is in_b in_a (free 1 (omega arith)) (free 0 (omega arith)) (λ e. other (sym e))),
    )

-- a window's first two identifiers differ and are not among the others
pub before_window : (k m a b : ℕ) (window : List ℕ) → IsWindow k m (a ∷ b ∷ window)
    → (a ≢ b) × (¬ Contains window a) × (¬ Contains window b)
before_window k m a b window is =
    let size = is.size in
    let lacks = λ (i : ℕ) (lt : i < 2) (at' : Contains window (get_or (a ∷ b ∷ window) i 0)).
    is.distinct i (suc (suc at'.0)) 0 (omega arith) (omega (arith, at'.1))
    (sym (get_or_default window at'.0 0 (get_or (a ∷ b ∷ window) i 0) at'.1 ∙ at'.2)) in
    (is.distinct 0 1 0 (omega arith) (omega arith), lacks 0 (omega arith), lacks 1 (omega arith))
