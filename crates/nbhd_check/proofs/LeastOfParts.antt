-- The least of a list with one number for each part.
use Rattle.std.proofs.Common.{◌≡◌, ℕ, ◌+◌, ◌<◌, ◌≤◌, Option, Some, None, List, length, get_or, subst, ap, ◌∙◌, arith}
use Rattle.std.specs.List.{AllZip, range_with_len}
use Rattle.std.specs.Option.{unwrap_or}
use Rattle.std.specs.Ordering.{nat_cmp}
use Rattle.std.proofs.lemmas.List.Elements.{AllZip-get_or}
use Rattle.std.proofs.lemmas.List.FromFn.{length-range_with_len, get_or-range_with_len}
use Rattle.std.proofs.lemmas.Slice.Zip.{AllZip-long}
use Rattle.rayon.proofs.ToStd.{IsLeast-All}
use Rattle.rayon.specs.Lists.{IsLeast}

-- the least number of the list, or 0, is at most that of each part
least_is : (xs : List ℕ) (least : Option ℕ) (i : ℕ) → IsLeast nat_cmp xs least → i < length xs
    → unwrap_or least 0 ≤ get_or xs i 0
least_is xs None i is lt = omega arith
least_is xs (Some m) i is lt = IsLeast-All xs (Some m) is i 0 lt

pub least_of : (R : ℕ → ℕ → Type 0) (parts : ℕ) (places xs : List ℕ) (least : Option ℕ)
    → places ≡ range_with_len 0 parts
    → AllZip R places xs → IsLeast nat_cmp xs least → (part : ℕ) → part < parts
    → (value : ℕ) × R part value × (unwrap_or least 0 ≤ value)
least_of R parts places xs least places_are each is part lt =
    let many : length places ≡ parts = ap length places_are ∙ length-range_with_len 0 parts in
    let long = AllZip-long R places xs each in
    let plain : 0 + part ≡ part = omega arith in
    let own : get_or places part 0 ≡ part =
    ap (λ l. get_or l part 0) places_are ∙ get_or-range_with_len 0 parts part 0 lt ∙ plain in (
      get_or xs part 0,
      subst (λ p. R p (get_or xs part 0)) own (AllZip-get_or R places xs part 0 0 each (omega arith)),
      least_is xs least part is (omega arith),
    )
