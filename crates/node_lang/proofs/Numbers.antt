-- The value of decimal digits, read from the left.
use Rattle.std.proofs.Common.{◌≡◌, ℕ, ◌+◌, ◌-◌, ◌*◌, ◌<◌, ◌≤◌, List, [], ◌∷◌, length, get_or, drop, refl, sym, ◌∙◌}
use Rattle.std.proofs.Common.{arith, add-one}
use Rattle.std.proofs.Math.Seq.{drop-cons}
use Rattle.std.proofs.lemmas.List.{at_drop_all}
use Rattle.node_lang.specs.Words.{read_on}

-- more digits don't make a number smaller
pub read_on-le : (n : ℕ) (ds : List ℕ) → n ≤ read_on n ds
read_on-le n [] = omega arith
read_on-le n (d ∷ ds) = let more = read_on-le (10 * n + (d - 48)) ds in omega arith

-- one more digit is read
pub read_more : (n m i : ℕ) (ds : List ℕ) → i < length ds → read_on n (drop i ds) ≡ read_on 0 ds →
    m ≡ 10 * n + (get_or ds i 0 - 48) →
    read_on m (drop (i + 1) ds) ≡ read_on 0 ds
read_more n m i ds h e grown = rw grown (sym (rw (add-one, drop-cons ds i 0) refl) ∙ e)

-- a number is too large if a prefix of its digits is
pub too_large : (n m i : ℕ) (ds : List ℕ) → i < length ds → read_on n (drop i ds) ≡ read_on 0 ds →
    m ≡ 10 * n + (get_or ds i 0 - 48) →
    m ≤ read_on 0 ds
too_large n m i ds h e grown = grind (arith, read_more n m i ds, read_on-le)

-- all digits are read
pub all_read : (n i : ℕ) (ds : List ℕ) → length ds ≤ i → read_on n (drop i ds) ≡ read_on 0 ds → n ≡ read_on 0 ds
all_read n i ds h e = sym (at_drop_all (read_on n) ds i h) ∙ e
