-- An explanation has the tree of each expression, with its value at the root.
use Rattle.std.proofs.Common.{◌≡◌, ℕ, zero, suc, ◌+◌, ◌<◌, List, [], ◌∷◌, ◌++◌, codes, length, sym, ap, subst, ◌∙◌}
use Rattle.std.proofs.Common.{append_assoc, append-nil, arith}
use Rattle.std.specs.Prelude.{Some, slice_get, slice_index}
use Rattle.std.proofs.lemmas.Option.{none-some, same_Some}
use Rattle.node_program.specs.Term.{Term, Round, ProgramTree}
use Rattle.node_program.specs.Node.{knowing_id, to_left, to_right}
use Rattle.node_program.specs.GlobalRounds.{state, channels_of}
use Rattle.node_program.specs.Value.{Env, value}
use Rattle.numerals.specs.declared.base.Base.{Base}
use Rattle.value_trees.specs.Trees.{tree_lines}
use Rattle.value_trees.specs.Explanation.{headed, register_heading, side_heading, finish_heading, assigned_lines}
use Rattle.value_trees.specs.Explanation.{round_trees, rounds_trees, explanation, before_messages, with_messages}
use Rattle.value_trees.specs.Laws.{Shows, ExplanationsShowTraces}
use Rattle.value_trees.proofs.PartLines.{trees_show}
use Rattle.value_trees.proofs.Roots.{starts, assigned, sent, finished}

-- a text with a piece in it
record Has (piece text : List ℕ) : Type 0 where
  before : List ℕ
  after : List ℕ
  whole : text ≡ before ++ (piece ++ after)

itself : (t : List ℕ) → Has t t
itself t = record { before = []; after = []; whole = sym (append-nil t) }

on_left : (piece t u : List ℕ) → Has piece t → Has piece (t ++ u)
on_left piece t u has = record {
  before = has.before;
  after = has.after ++ u;
  whole = ap (λ l. l ++ u) has.whole ∙ append_assoc has.before (piece ++ has.after) u
      ∙ ap (λ l. has.before ++ l) (append_assoc piece has.after u);
}

on_right : (piece t u : List ℕ) → Has piece u → Has piece (t ++ u)
on_right piece t u has = record {
  before = t ++ has.before;
  after = has.after;
  whole = ap (λ l. t ++ l) has.whole ∙ sym (append_assoc t has.before (piece ++ has.after));
}

inside : (piece t u : List ℕ) → Has piece t → Has t u → Has piece u
inside piece t u own has =
    let more : Has piece (t ++ has.after) = on_left piece t has.after own in
    subst (Has piece) (sym has.whole) (on_right piece has.before (t ++ has.after) more)

-- what stands below a heading is the tree of the expression
shown : (b : Base) (heading : List ℕ) (env : Env) (e : Term) (n : ℕ) (text : List ℕ) → value e env ≡ n →
    Has (headed heading b env e) text → Shows b heading env e n text
shown b heading env e n text is has = record {
  value_is = is;
  tree = tree_lines b env e;
  is_tree = trees_show b env e;
  before = has.before;
  others = has.after;
  whole = has.whole ∙ ap (λ l. has.before ++ l) (append_assoc heading (10 ∷ tree_lines b env e) has.after);
}

assigned_has : (r : ℕ) (b : Base) (env : Env) (k : ℕ) (es : List Term) (j : ℕ) (e : Term) → slice_get es j ≡ Some e
    → Has (headed (register_heading r (k + j)) b env e) (assigned_lines r b env k es)
assigned_has r b env k [] j e is = absurd (none-some e is)
assigned_has r b env k (d ∷ ds) zero e is =
    let own = headed (register_heading r k) b env d in
    let has : Has own (assigned_lines r b env k (d ∷ ds)) =
    on_left own own (assigned_lines r b env (k + 1) ds) (itself own) in
    let same : k ≡ k + 0 = omega arith in
    subst (λ h. Has h (assigned_lines r b env k (d ∷ ds)))
    (λ i. headed (register_heading r (same i)) b env (same_Some d e is i)) has
assigned_has r b env k (d ∷ ds) (suc j) e is =
    let next : k + 1 + j ≡ k + suc j = omega arith in
    let own = headed (register_heading r k) b env d in
    on_right _ own (assigned_lines r b env (k + 1) ds)
    (subst (λ m. Has (headed (register_heading r m) b env e) (assigned_lines r b env (k + 1) ds)) next (assigned_has r b env (k + 1) ds j e is))

rounds_has : (b : Base) (p : ProgramTree) (x : List ℕ) (i k : ℕ) (ss : List Round) (r : ℕ) (s : Round)
    → slice_get ss r ≡ Some s
    → Has (round_trees b p x i (k + r) s) (rounds_trees b p x i k ss)
rounds_has b p x i k [] r s is = absurd (none-some s is)
rounds_has b p x i k (d ∷ ds) zero s is =
    let own = round_trees b p x i k d in
    let has : Has own (rounds_trees b p x i k (d ∷ ds)) =
    on_left own own (rounds_trees b p x i (k + 1) ds) (itself own) in
    let same : k ≡ k + 0 = omega arith in
    subst (λ h. Has h (rounds_trees b p x i k (d ∷ ds))) (λ q. round_trees b p x i (same q) (same_Some d s is q)) has
rounds_has b p x i k (d ∷ ds) (suc r) s is =
    let next : k + 1 + r ≡ k + suc r = omega arith in
    on_right _ (round_trees b p x i k d) (rounds_trees b p x i (k + 1) ds)
    (subst (λ m. Has (round_trees b p x i m s) (rounds_trees b p x i (k + 1) ds)) next (rounds_has b p x i (k + 1) ds r s is))

-- the same from the first on
register_has : (r : ℕ) (b : Base) (env : Env) (es : List Term) (j : ℕ) (e : Term) → slice_get es j ≡ Some e
    → Has (headed (register_heading r j) b env e) (assigned_lines r b env 0 es)
register_has r b env es j e is =
    let same : 0 + j ≡ j = omega arith in
    subst (λ m. Has (headed (register_heading r m) b env e) (assigned_lines r b env 0 es)) same
    (assigned_has r b env 0 es j e is)

step_has : (b : Base) (p : ProgramTree) (x : List ℕ) (i : ℕ) (ss : List Round) (r : ℕ) (s : Round)
    → slice_get ss r ≡ Some s
    → Has (round_trees b p x i r s) (rounds_trees b p x i 0 ss)
step_has b p x i ss r s is =
    let same : 0 + r ≡ r = omega arith in
    subst (λ m. Has (round_trees b p x i m s) (rounds_trees b p x i 0 ss)) same (rounds_has b p x i 0 ss r s is)

-- the parts of an explanation
module _ (b : Base) (p : ProgramTree) (x : List ℕ) (i : ℕ) where
  abbrev begin : List ℕ
  begin = assigned_lines 0 b (knowing_id (slice_index x i)) 0 p.start

  abbrev middle : List ℕ
  middle = rounds_trees b p x i 0 p.steps

  abbrev end : List ℕ
  end = headed (finish_heading (length p.steps)) b (before_messages p x i (length p.steps)) p.finish

  -- those of a round
  abbrev left_tree : ℕ → Round → List ℕ
  left_tree r s = headed (side_heading (codes " left") (r + 1)) b (before_messages p x i r) s.left

  abbrev right_tree : ℕ → Round → List ℕ
  right_tree r s = headed (side_heading (codes " right") (r + 1)) b (before_messages p x i r) s.right

  abbrev next_trees : ℕ → Round → List ℕ
  next_trees r s = assigned_lines (r + 1) b (with_messages p x i r) 0 s.next

  round_has : (r : ℕ) (s : Round) → slice_get p.steps r ≡ Some s → Has (round_trees b p x i r s) (explanation b p x i)
  round_has r s is = on_right _ begin (middle ++ end) (on_left _ middle end (step_has b p x i p.steps r s is))

  start_shown : (j : ℕ) (e : Term) → slice_get p.start j ≡ Some e
      → Shows b (register_heading 0 j) (knowing_id (slice_index x i)) e (slice_index (state p x 0 i) j)
      (explanation b p x i)
  start_shown j e is =
      shown b _ (knowing_id (slice_index x i)) e _ _ (starts p x i j e is)
      (on_left _ begin (middle ++ end) (register_has 0 b (knowing_id (slice_index x i)) p.start j e is))

  -- what stands in the trees of a round
  in_round : (r : ℕ) (s : Round) (env : Env) (heading : List ℕ) (e : Term) (n : ℕ) → slice_get p.steps r ≡ Some s
      → value e env ≡ n
      → Has (headed heading b env e) (round_trees b p x i r s) → Shows b heading env e n (explanation b p x i)
  in_round r s env heading e n round is has =
      shown b heading env e n _ is
      (inside _ (round_trees b p x i r s) (explanation b p x i) has (round_has r s round))

  register_shown : (r j : ℕ) (s : Round) (e : Term) → slice_get p.steps r ≡ Some s → slice_get s.next j ≡ Some e
      → Shows b (register_heading (r + 1) j) (with_messages p x i r) e (slice_index (state p x (r + 1) i) j)
      (explanation b p x i)
  register_shown r j s e round is =
      in_round r s (with_messages p x i r) _ e _ round (assigned p x i r j s e round is)
      (on_right _ (left_tree r s) (right_tree r s ++ next_trees r s)
      (on_right _ (right_tree r s) (next_trees r s) (register_has (r + 1) b (with_messages p x i r) s.next j e is)))

  left_shown : (r : ℕ) (s : Round) → slice_get p.steps r ≡ Some s
      → Shows b (side_heading (codes " left") (r + 1)) (before_messages p x i r) s.left (to_left p r (state p x r i))
      (explanation b p x i)
  left_shown r s round =
      in_round r s (before_messages p x i r) _ s.left _ round ((sent p x i r s round).0)
      (on_left (left_tree r s) (left_tree r s) (right_tree r s ++ next_trees r s) (itself (left_tree r s)))

  right_shown : (r : ℕ) (s : Round) → slice_get p.steps r ≡ Some s
      → Shows b (side_heading (codes " right") (r + 1)) (before_messages p x i r) s.right (to_right p r (state p x r i))
      (explanation b p x i)
  right_shown r s round =
      in_round r s (before_messages p x i r) _ s.right _ round ((sent p x i r s round).1)
      (on_right (right_tree r s) (left_tree r s) (right_tree r s ++ next_trees r s)
      (on_left (right_tree r s) (right_tree r s) (next_trees r s) (itself (right_tree r s))))

  channel_shown : i < length x
      → Shows b (finish_heading (length p.steps)) (before_messages p x i (length p.steps)) p.finish
      (slice_index (channels_of p x) i) (explanation b p x i)
  channel_shown within =
      shown b _ (before_messages p x i (length p.steps)) p.finish _ _ (finished p x i within)
      (on_right end begin (middle ++ end) (on_right end middle end (itself end)))

pub traces_shown : ExplanationsShowTraces
traces_shown b p x i within = record {
  starts = start_shown b p x i;
  registers = register_shown b p x i;
  left = left_shown b p x i;
  right = right_shown b p x i;
  channel = channel_shown b p x i within;
}
