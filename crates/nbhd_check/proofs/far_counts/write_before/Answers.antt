use Rattle.std.proofs.Common.{◌≡◌, ℕ, ◌-◌, ◌≤◌, List, [], ◌∷◌, ◌++◌, length, set, take, drop, ap, ◌∙◌, arith, refl}
use Rattle.std.proofs.Common.{length-drop, length-set, append-nil}
use Rattle.std.proofs.lemmas.List.{drop_all}
use Rattle.nbhd_check.proofs.far_counts.write_before.Goals as goal

-- the first two cells are written
begun : (out : List ℕ) (first second : ℕ) → 2 ≤ length out
    → take 2 (set (set out 0 first) 1 second) ≡ first ∷ second ∷ []
begun [] first second long = absurd (omega arith)
begun (x ∷ []) first second long = absurd (omega arith)
begun (x ∷ y ∷ out) first second long = refl

pub returns : goal.returns
returns c =
    let out = c.args.out.now in
    let cells = set (set out 0 c.args.first) 1 c.args.second in
    let size : length cells ≡ length out =
    length-set (set out 0 c.args.first) 1 c.args.second ∙ length-set out 0 c.args.first in
    (λ i. begun out c.args.first c.args.second (omega (arith, c.requires)) i
    ++ (c.copy_from_slice.ensures.after i
    ++ drop_all (length cells - 2) (drop 2 cells) (omega (arith, length-drop 2 cells)) i))
    ∙ ap (λ l. c.args.first ∷ c.args.second ∷ l) (append-nil c.args.others.now)
