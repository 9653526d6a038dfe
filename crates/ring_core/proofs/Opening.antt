-- The parts before the first event.
use Rattle.std.proofs.Common.{◌≡◌, ℕ, ◌<◌, ◌≤◌, map, length, replicate, arith, refl, subst, sym, ◌∙◌, ap}
use Rattle.std.specs.List.{range_with_len}
use Rattle.std.proofs.lemmas.List.{ext_get_or, get_or-map, get_or-replicate, length-map, length-replicate}
use Rattle.std.proofs.lemmas.List.FromFn.{fill_by_all, length-map-range_with_len, get_or-map-range_with_len}
use Rattle.lang_check.specs.Plans.{ProgramForIds}
use Rattle.win_index.specs.Ring.{OrientedRing}
use Rattle.ring_core.specs.Machine.{no_places, no_messages, segment_after, opening, opening_segment}
use Rattle.ring_core.specs.Progress.{Progress, Parts, IsInStep, FitTogether, opening_part, no_part, part_at, machine_of}
use Rattle.ring_core.specs.Progress.{segment_state, border_state, rightward_values, leftward_values}
use Rattle.ring_core.proofs.Neighbours.{after_inside}

module _ (plan : ProgramForIds) (ring : OrientedRing) (g : ℕ) where
  abbrev pub opening_parts : Parts
  opening_parts = record { plan = plan; ring = ring; items = map (opening_part plan ring g) (range_with_len 0 g) }

  count_is : length opening_parts.items ≡ g
  count_is = length-map-range_with_len (opening_part plan ring g) 0 g

  part_is : (s : ℕ) → s < g → part_at opening_parts s ≡ opening_part plan ring g s
  part_is s lt = get_or-map-range_with_len (opening_part plan ring g) 0 g s s no_part lt (omega arith)

  in_step : (s : ℕ) → s < g → (sent : Progress → ℕ) → sent (opening_part plan ring g s) ≡ 0
      → IsInStep (part_at opening_parts s).segment (sent (part_at opening_parts s))
  in_step s lt sent none =
      subst (λ p. IsInStep p.segment (sent p)) (sym (part_is s lt))
      (rw none (record { low = omega arith; high = omega arith; end = omega arith }))

  pub opening_fits : 1 ≤ g → g ≤ length ring.places → FitTogether opening_parts
  opening_fits some few =
      let round = λ (s : ℕ) (lt : s < g). ap (λ (p : Progress). p.segment.round) (part_is s lt) in
      record {
        some = rw count_is some;
        few = rw count_is few;
        segments_are = rw count_is (λ s lt.
            ap (λ (p : Progress). p.segment) (part_is s lt)
            ∙ ap (λ r. record { plan = plan; ring = ring; segments = g; index = s; round = r }) (sym (round s lt)));
        right_in_step = rw count_is (λ s lt. in_step s lt (λ p. p.rightward) refl);
        left_in_step = rw count_is (λ s lt. in_step s lt (λ p. p.leftward) refl);
        from_left = rw count_is (λ s lt. omega (arith, round s lt));
        from_right = rw count_is (λ s lt. omega (arith, round s lt));
      }

  -- each border before the first event
  border_is : (b : ℕ) → 1 ≤ g → b < g → border_state opening_parts b ≡ no_messages
  border_is b some lt =
      let right = ap rightward_values (part_is b lt) in
      let behind : segment_after (length opening_parts.items) b ≡ segment_after g b =
      ap (λ n. segment_after n b) count_is in
      let left = ap (λ k. leftward_values (part_at opening_parts k)) behind
      ∙ ap leftward_values (part_is (segment_after g b) (after_inside g b some)) in
      λ i. record { rightward = right i; leftward = left i }

  pub opening_machine : 1 ≤ g → machine_of opening_parts ≡ opening plan ring g
  opening_machine some =
      let state_of = λ (p : Progress). segment_state p.segment in
      let items = opening_parts.items in
      let segments : map state_of items ≡ map (opening_segment plan ring g) (range_with_len 0 g) =
      fill_by_all (opening_segment plan ring g) (map state_of items) g no_places (length-map items state_of ∙ count_is)
      (λ s lt. get_or-map state_of items s no_part no_places (rw count_is lt) ∙ ap state_of (part_is s lt)) in
      let size : length (map (border_state opening_parts) (range_with_len 0 (length items))) ≡ g =
      length-map-range_with_len (border_state opening_parts) 0 (length items) ∙ count_is in
      let borders : map (border_state opening_parts) (range_with_len 0 (length items)) ≡ replicate g no_messages =
      ext_get_or no_messages _ _ (size ∙ sym (length-replicate g no_messages))
      (λ b below.
      let lt : b < g = rw size at below in
      get_or-map-range_with_len (border_state opening_parts) 0 (length items) b b no_messages
      (rw count_is lt) (omega arith)
      ∙ border_is b some lt ∙ sym (get_or-replicate g b no_messages no_messages lt)) in
      λ i. record { plan = plan; ring = ring; segments = segments i; borders = borders i }
