-- Injective codes of segments, for their models. No contract cites them.
use Rattle.std.specs.Prelude.{ℕ, List, refl}
use Rattle.std.specs.Coded.{Coded, code_by, coded×, coded_ℕ, coded_list}
use Rattle.lang_check.specs.Plans.{ProgramForIds, plan_code}
use Rattle.win_index.specs.Ring.{OrientedRing}
use Rattle.border_exchange.specs.Segments.{RingSegment}

abbrev pub ring_code : Coded OrientedRing
ring_code =
    code_by (ℕ × (ℕ × List ℕ)) (coded× coded_ℕ (coded× coded_ℕ (coded_list coded_ℕ)))
    (λ r. (r.ids, (r.rounds, r.places)))
    (λ t. record { ids = t.0; rounds = t.1.0; places = t.1.1 }) (λ _. refl)

abbrev pub segment_code : Coded RingSegment
segment_code =
    code_by (ProgramForIds × (OrientedRing × (ℕ × (ℕ × ℕ))))
    (coded× plan_code (coded× ring_code (coded× coded_ℕ (coded× coded_ℕ coded_ℕ))))
    (λ s. (s.plan, (s.ring, (s.segments, (s.index, s.round)))))
    (λ t. record { plan = t.0; ring = t.1.0; segments = t.1.1.0; index = t.1.1.1.0; round = t.1.1.1.1 }) (λ _. refl)
