-- Numbers after their names, and the first two lines of a table text.
use Rattle.std.proofs.Common.{◌≡◌, ℕ, ◌^◌, ◌<◌, List, [], ◌∷◌, ◌++◌, get_or, refl, sym, ap, subst, ◌∙◌, arith}
use Rattle.std.specs.Prelude.{codes}
use Rattle.std.proofs.lemmas.List.{append_cancel_left}
use Rattle.channel_tables.specs.declared.separation.Separation.{Separation}
use Rattle.table_text.specs.declared.version.Version.{Version}
use Rattle.table_text.specs.declared.version.Version.TheVariants.{One, Two}
use Rattle.table_text.specs.TableText.{title_then, counts_then, counts_end, distances_then, sizes_then}
use Rattle.table_text.specs.LineForms.{AreSizes, IsSeparationOf, HasSizes, IsHead, HasShape}
use Rattle.numerals.proofs.NumbersInTexts.{field_once}

-- numbers below 2^32
pub record Fit (rounds ids channels : ℕ) : Type 0 where
  pub rounds_fit : rounds < 2 ^ 32
  pub ids_fit : ids < 2 ^ 32
  pub channels_fit : channels < 2 ^ 32

pub sizes_fit : (rounds ids channels : ℕ) → AreSizes rounds ids channels → Fit rounds ids channels
sizes_fit rounds ids channels are =
    record {
      rounds_fit = omega (arith, are.few_rounds);
      ids_fit = omega (arith, are.shape.ids.few);
      channels_fit = omega (arith, are.few_channels);
    }

-- the second line begins with one number of rounds, one of identifiers and one of channels
pub counts_once : (end r i k s j l : ℕ) (x y : List ℕ) → end < 48 → Fit r i k → Fit s j l →
    counts_then r i k end x ≡ counts_then s j l end y
    → (r ≡ s) × (i ≡ j) × (k ≡ l) × (x ≡ y)
counts_once end r i k s j l x y small p q same =
    let rounds = field_once (codes "rounds ") 32 r s _ _ (omega arith) p.rounds_fit q.rounds_fit same in
    let ids = field_once (codes "ids ") 32 i j _ _ (omega arith) p.ids_fit q.ids_fit rounds.1 in
    let channels = field_once (codes "channels ") end k l x y small p.channels_fit q.channels_fit ids.1 in
    (rounds.0, ids.0, channels.0, channels.1)

pub counts_end_small : (version : Version) → counts_end version < 48
counts_end_small One = omega arith
counts_end_small Two = omega arith

-- two distances in one text are the same
pub two_once : (near far near' far' : ℕ) (x y : List ℕ) → near < 2 ^ 32 → far < 2 ^ 32 → near' < 2 ^ 32 → far' < 2 ^ 32
    → distances_then Two (record { near = near; far = far }) x
    ≡ distances_then Two (record { near = near'; far = far' }) y
    → (near ≡ near') × (far ≡ far') × (x ≡ y)
two_once near far near' far' x y p q p' q' same =
    let first = field_once (codes "near ") 32 near near' _ _ (omega arith) p p' same in
    let second = field_once (codes "far ") 10 far far' x y (omega arith) q q' first.1 in
    (first.0, second.0, second.1)

-- a text of one version gives one separation
pub distances_once : (version : Version) (s u : Separation) (x y : List ℕ) → IsSeparationOf version s →
    IsSeparationOf version u
    → distances_then version s x ≡ distances_then version u y → (s ≡ u) × (x ≡ y)
distances_once One s u x y p q same = (p ∙ sym q, same)
distances_once Two s u x y p q same =
    let one = two_once s.near s.far u.near u.far x y (omega (arith, p.small_near)) (omega (arith, p.small_far))
    (omega (arith, q.small_near))
    (omega (arith, q.small_far)) same in
    (λ i. record { near = one.0 i; far = one.1 i }, one.2)

-- if the second line gives sizes, its first numbers are those of a table, and they are followed by a separation
pub sizes_are : (version : Version) (text : List ℕ) (r i k end : ℕ) (rest : List ℕ) →
    (r < 2 ^ 32) × (i < 2 ^ 32) × (k < 2 ^ 32) → text ≡ counts_then r i k end rest → end ≡ counts_end version
    → HasSizes version text → AreSizes r i k × (s : Separation) × (after : List ℕ) × IsSeparationOf version s
    × (rest ≡ distances_then version s after)
sizes_are version text r i k end rest fit same ends has =
    let fits : Fit r i k = record { rounds_fit = fit.0; ids_fit = fit.1; channels_fit = fit.2 } in
    let one = counts_once (counts_end version) r i k has.0 has.1 has.2 rest _ (counts_end_small version) fits
    (sizes_fit has.0 has.1 has.2 has.5)
    (sym (same ∙ ap (λ e. counts_then r i k e rest) ends) ∙ has.7) in
    (rw (one.0, one.1, one.2) has.5, has.3, has.4, has.6, one.3)

-- the contents of the second line are unique
sizes_once : (version : Version) (r i k r' i' k' : ℕ) (s s' : Separation) (x y : List ℕ) → Fit r i k →
    Fit r' i' k' → IsSeparationOf version s → IsSeparationOf version s'
    → sizes_then version r i k s x ≡ sizes_then version r' i' k' s' y →
    (r ≡ r') × (i ≡ i') × (k ≡ k') × (s ≡ s') × (x ≡ y)
sizes_once version r i k r' i' k' s s' x y p q told told' same =
    let one = counts_once (counts_end version) r i k r' i' k' _ _ (counts_end_small version) p q same in
    let more = distances_once version s s' x y told told' one.3 in
    (one.0, one.1, one.2, more.0, more.1)

-- the byte at index 11 of a title is the digit of its version
digits_differ : (x y : List ℕ) → title_then One x ≡ title_then Two y → ⊥
digits_differ x y same =
    let digit : 49 ≡ 50 = ap (λ l. get_or l 11 0) same in
    omega (arith, digit)

-- the first line names one version and ends at one place
pub title_once : (v w : Version) (x y : List ℕ) → title_then v x ≡ title_then w y → (v ≡ w) × (x ≡ y)
title_once One One x y same = (refl, append_cancel_left (codes "nbhd-table 1" ++ 10 ∷ []) x y same)
title_once One Two x y same = absurd (digits_differ x y same)
title_once Two One x y same = absurd (digits_differ y x (sym same))
title_once Two Two x y same = (refl, append_cancel_left (codes "nbhd-table 2" ++ 10 ∷ []) x y same)

-- the contents of the first two lines are unique
pub head_once : {v w : Version} {text : List ℕ} {r i k r' i' k' : ℕ} {s s' : Separation} {x y : List ℕ}
    → IsHead v text r i k s x → IsHead w text r' i' k' s' y
    → (v ≡ w) × (r ≡ r') × (i ≡ i') × (k ≡ k') × (s ≡ s') × (x ≡ y)
head_once {v = v} {r = r} {i = i} {k = k} {r' = r'} {i' = i'} {k' = k'} {s = s} {s' = s'} {x = x} {y = y} p q =
    let title = title_once _ _ _ _ (sym p.lines ∙ q.lines) in
    let moved = title.1 ∙ ap (λ version. sizes_then version r' i' k' s' y) (sym title.0) in
    let told = subst (λ version. IsSeparationOf version s') (sym title.0) q.told in
    let one = sizes_once v r i k r' i' k' s s' x y (sizes_fit r i k p.sizes)
    (sizes_fit r' i' k' q.sizes) p.told told moved in
    (title.0, one.0, one.1, one.2, one.3, one.4)

-- the first two lines give one shape
pub shape_once : (text : List ℕ) (r i r' i' : ℕ) → HasShape text r i → HasShape text r' i' → (r ≡ r') × (i ≡ i')
shape_once text r i r' i' p q =
    let one = head_once p.4 q.4 in
    (one.1, one.2)
