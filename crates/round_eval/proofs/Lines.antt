-- The items of a shrinking line, and the lines of a window's parts.
use Rattle.std.proofs.Common.{◌≡◌, ℕ, zero, suc, ◌+◌, ◌-◌, ◌*◌, ◌<◌, ◌≤◌, List, [], ◌∷◌, ◌++◌, length, length-append}
use Rattle.std.proofs.Common.{get_or, take, drop, refl, sym, ap, ◌∙◌, arith, add-one, length-drop}
use Rattle.std.proofs.lemmas.List.{get_or-map, length-map, get_or-take, get_or-drop, length-take-le}
use Rattle.std.proofs.lemmas.List.FromFn.{fill_by_all, length-map-range_with_len, get_or-map-range_with_len}
use Rattle.node_program.specs.Term.{ProgramTree}
use Rattle.node_program.specs.Node.{start, to_left, to_right}
use Rattle.round_eval.specs.Rows.{row_after}
use Rattle.round_eval.specs.Line.{between, item, line, middle_state}
use Rattle.round_eval.specs.WindowLaws.{LinesAreRows, OneStateRemains, StartStateRemains, PartsAreJoined}

pub between_same :
    (p : ProgramTree) (k : ℕ) {a b c x y z : List ℕ} → a ≡ x → b ≡ y → c ≡ z → between p k a b c ≡ between p k x y z
between_same p k {a} {b} {c} {x} {y} {z} left own right =
    ap (λ u. between p k u b c) left ∙ ap (λ u. between p k x u c) own ∙ ap (λ u. between p k x y u) right

-- a line is 2k shorter after k rounds
pub length-line : (p : ProgramTree) (w : List ℕ) (k : ℕ) → length (line p w k) ≡ length w - 2 * k
length-line p w zero = length-map w (start p) ∙ (omega arith)
length-line p w (suc k) =
    let u : List (List ℕ) = line p w k in
    length-map-range_with_len (λ j. between p k (item u j) (item u (j + 1)) (item u (j + 2))) 0 (length u - 2)
    ∙ (omega (arith, length-line p w k))

pub line_start : (p : ProgramTree) (w : List ℕ) (j : ℕ) → j < length w → item (line p w 0) j ≡ start p (get_or w j 0)
line_start p w j lt = get_or-map (start p) w j 0 [] lt

pub line_next :
    (p : ProgramTree) (w : List ℕ) (k j : ℕ) → j + 2 * k + 2 < length w
    → item (line p w (suc k)) j
    ≡ between p k (item (line p w k) j) (item (line p w k) (j + 1)) (item (line p w k) (j + 2))
line_next p w k j lt =
    let u : List (List ℕ) = line p w k in
    let inside : j < length u - 2 = omega (arith, length-line p w k) in
    get_or-map-range_with_len (λ i. between p k (item u i) (item u (i + 1)) (item u (i + 2))) 0
    (length u - 2) j j [] inside (omega arith)

-- states that begin with the start states of w, and go on as a line does, are the items of the line
pub line_is :
    (p : ProgramTree) (w : List ℕ) (f : ℕ → ℕ → List ℕ) → ((j : ℕ) → j < length w → start p (get_or w j 0) ≡ f 0 j)
    → ((k j : ℕ) → j + 2 * k + 2 < length w → f (suc k) j ≡ between p k (f k j) (f k (j + 1)) (f k (j + 2)))
    → (k j : ℕ) → j + 2 * k < length w → item (line p w k) j ≡ f k j
line_is p w f starts goes zero j lt = line_start p w j (omega arith) ∙ starts j (omega arith)
line_is p w f starts goes (suc k) j lt =
    let here = line_is p w f starts goes k in
    line_next p w k j (omega arith)
    ∙ between_same p k (here j (omega arith)) (here (j + 1) (omega arith)) (here (j + 2) (omega arith))
    ∙ sym (goes k j (omega arith))

-- the line of a part of a window is a part of the window's line
line_of_part :
    (p : ProgramTree) (w : List ℕ) (len d k j : ℕ) → d + len ≤ length w → j + 2 * k < len
    → item (line p (take len (drop d w)) k) j ≡ item (line p w k) (d + j)
line_of_part p w len d k j fits lt =
    let part : List ℕ = take len (drop d w) in
    let size : length part ≡ len = length-take-le len (drop d w) (omega (arith, length-drop d w)) in
    line_is p part (λ i j. item (line p w i) (d + j))
    (λ j small.
    let same : get_or part j 0 ≡ get_or w (d + j) 0 =
    get_or-take len (drop d w) j 0 (omega arith) ∙ get_or-drop d w j 0 in
    ap (start p) same ∙ sym (line_start p w (d + j) (omega arith)))
    (λ i j small.
    let own : d + (j + 1) ≡ d + j + 1 = omega arith in
    let right : d + (j + 2) ≡ d + j + 2 = omega arith in
    rw (own, right) (line_next p w i (d + j) (omega arith)))
    k j (omega arith)

pub start_remains : StartStateRemains
unfolding middle_state
start_remains p w some = line_start p w 0 some

pub parts_joined : PartsAreJoined
unfolding middle_state
parts_joined p r w size =
    let of_part = λ (d : ℕ) (le : d ≤ 2). line_of_part p w (2 * r + 1) d r 0 (omega arith) (omega arith) in
    let three = between_same p r (of_part 0 (omega arith)) (of_part 1 (omega arith)) (of_part 2 (omega arith)) in
    rw (add-one r) (line_next p w r 0 (omega arith) ∙ sym three)

length-row_after :
    (p : ProgramTree) (k left right : ℕ) (row : List (List ℕ)) → length (row_after p k left row right) ≡ length row
length-row_after p k left right [] = refl
length-row_after p k left right (own ∷ row) = ap (λ n. suc n) (length-row_after p k (to_right p k own) right row)

-- an item of a row after a round, from the line around the row
item_after :
    (p : ProgramTree) (k : ℕ) (first last : List ℕ) (row : List (List ℕ)) (j : ℕ) → j < length row
    → item (row_after p k (to_right p k first) row (to_left p k last)) j
    ≡ between p k (item (first ∷ (row ++ last ∷ [])) j) (item (row ++ last ∷ []) j) (item (row ++ last ∷ []) (suc j))
item_after p k first last [] j lt = absurd (omega arith)
item_after p k first last (own ∷ []) zero lt = refl
item_after p k first last (own ∷ []) (suc j) lt = absurd (omega arith)
item_after p k first last (own ∷ (after ∷ row)) zero lt = refl
item_after p k first last (own ∷ (after ∷ row)) (suc j) lt = item_after p k own last (after ∷ row) j (omega arith)

pub shrunk_row : LinesAreRows
shrunk_row p k first last row =
    let u : List (List ℕ) = first ∷ (row ++ last ∷ []) in
    let size : length row ≡ length u - 2 = omega (arith, length-append row (last ∷ [])) in
    sym
    (fill_by_all (λ j. between p k (item u j) (item u (j + 1)) (item u (j + 2))) _ (length u - 2) []
    (length-row_after p k (to_right p k first) (to_left p k last) row ∙ size)
    (λ j lt.
    let two : j + 2 ≡ suc (suc j) = omega arith in
    rw (add-one j, two) (item_after p k first last row j (omega arith))))

only_item : (u : List (List ℕ)) → length u ≡ 1 → u ≡ item u 0 ∷ []
only_item [] size = absurd (omega arith)
only_item (x ∷ []) size = refl
only_item (x ∷ (y ∷ u)) size = absurd (omega arith)

-- the line of a window has one state in the end
pub one_remains : OneStateRemains
unfolding middle_state
one_remains p r w size = only_item (line p w r) (omega (arith, length-line p w r))
