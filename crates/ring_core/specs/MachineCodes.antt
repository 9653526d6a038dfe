-- Injective codes of machines and of their parts, for their models. No contract cites them.
use Rattle.std.specs.Prelude.{ℕ, List, refl}
use Rattle.std.specs.Coded.{Coded, code_by, coded×, coded_ℕ, coded_list}
use Rattle.lang_check.specs.Plans.{ProgramForIds, plan_code}
use Rattle.win_index.specs.Ring.{OrientedRing}
use Rattle.border_exchange.specs.Segments.{RingSegment}
use Rattle.border_exchange.specs.Codes.{ring_code, segment_code}
use Rattle.ring_core.specs.Machine.{SegmentState, BorderState, Machine}
use Rattle.ring_core.specs.Progress.{Progress}

abbrev segment_state_code : Coded SegmentState
segment_state_code =
    code_by (ℕ × List (List ℕ)) (coded× coded_ℕ (coded_list (coded_list coded_ℕ))) (λ a. (a.round, a.states))
    (λ t. record { round = t.0; states = t.1 }) (λ _. refl)

abbrev border_state_code : Coded BorderState
border_state_code =
    code_by (List ℕ × List ℕ) (coded× (coded_list coded_ℕ) (coded_list coded_ℕ)) (λ b. (b.rightward, b.leftward))
    (λ t. record { rightward = t.0; leftward = t.1 }) (λ _. refl)

abbrev pub machine_code : Coded Machine
machine_code =
    code_by (ProgramForIds × (OrientedRing × (List SegmentState × List BorderState)))
    (coded× plan_code (coded× ring_code (coded× (coded_list segment_state_code) (coded_list border_state_code))))
    (λ m. (m.plan, (m.ring, (m.segments, m.borders))))
    (λ t. record { plan = t.0; ring = t.1.0; segments = t.1.1.0; borders = t.1.1.1 }) (λ _. refl)

abbrev pub progress_code : Coded Progress
progress_code =
    code_by (RingSegment × (ℕ × ℕ)) (coded× segment_code (coded× coded_ℕ coded_ℕ))
    (λ p. (p.segment, (p.rightward, p.leftward)))
    (λ t. record { segment = t.0; rightward = t.1.0; leftward = t.1.1 }) (λ _. refl)
