use Rattle.std.proofs.Common.{◌≡◌, ℕ, suc, ◌+◌, ◌*◌, ◌<◌, ◌≤◌, ◌++◌, ◌∷◌, [], List, length, get_or, ap, arith, ⊎_elim}
use Rattle.std.proofs.lemmas.Bool.{cases_lt}
use Rattle.std.proofs.Math.Seq.{take-append_seam}
use Rattle.std.proofs.lemmas.Option.{slice_get-get_or}
use Rattle.win_index.proofs.Windows.{windows_all, window_place, part_of_front, longer_window}
use Rattle.channel_tables.specs.Tables.{ChannelTable, channel_of}
use Rattle.channel_tables.specs.declared.separation.Separation.{Separation}
use Rattle.channel_tables.specs.Apart.{extra, tuples, IsBad, IsApart}
use Rattle.channel_tables.proofs.Close.{too_close_along, too_close_for_more}
use Rattle.channel_tables.proofs.Witnesses.{none_bad, suffice}
use Rattle.channel_tables.proofs.laws.less_is_apart.Goals as goal

module _ (t : ChannelTable) (s less : Separation) (near : less.near ≤ s.near) (far : less.far ≤ s.far)
    (apart : IsApart t s) where
  -- the tuples are as long
  same_tuples : extra less ≡ extra s → IsApart t less
  unfolding IsBad
  same_tuples same =
      let none : (k : ℕ) (d : List ℕ) → k < length (tuples t s) → ¬ IsBad t less (get_or (tuples t s) k d) =
      λ k d within bad. apart k d within (too_close_for_more less s _ _ _ near far bad) in
      rw same none

  -- the tuples are shorter by one, and each is the front of a longer one
  shorter_tuples : extra less ≡ 1 → extra s ≡ 2 → 2 * t.rounds + 3 ≤ t.ids → IsApart t less
  unfolding IsBad
  shorter_tuples one two ids k d within bad =
      let len : ℕ = 2 * t.rounds + 1 + extra less in
      let list = get_or (tuples t less) k d in
      let window = windows_all len t.ids k list (slice_get-get_or (tuples t less) k d within) in
      let more = longer_window len t.ids list (omega (arith, one, ids)) window in
      let next : suc len ≡ 2 * t.rounds + 1 + extra s = omega (arith, one, two) in
      let place = window_place (2 * t.rounds + 1 + extra s) t.ids (list ++ more.0 ∷ []) (rw next at more.1) in
      let size = window.size in
      let part = λ (step : ℕ) (le : step ≤ 1). ap (channel_of t)
      (rw (take-append_seam list (more.0 ∷ [])) at (part_of_front t.rounds step (length list) (list ++ more.0 ∷ []) (omega (arith, size, one)))) in
      none_bad t s place.0 (list ++ more.0 ∷ []) apart place.1
      (too_close_for_more less s _ _ _ near far (too_close_along less (part 0 (omega arith)) (part 1 (omega arith)) (λ far. absurd (omega arith)) bad))

pub returns : goal.returns
returns c t s less near far long good = (suffice t less).0 (⊎_elim same longer long)
  where
    same : extra less ≡ extra s → IsApart t less
    same = same_tuples t s less near far ((suffice t s).1 good)

    longer : 2 * t.rounds + 3 ≤ t.ids → IsApart t less
    longer ids =
        ⊎_elim
        (λ (fewer : extra less < extra s). shorter_tuples t s less near far ((suffice t s).1 good) (omega arith) (omega arith) ids)
        (λ (no : extra s ≤ extra less). same (omega arith))
        (cases_lt (extra less) (extra s))
