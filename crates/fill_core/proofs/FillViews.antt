-- A worker in the code's state and in the machine.
use Rattle.std.proofs.Common.{◌≡◌, ℕ, ◌<◌, false, Option, None, Some, List, map, length, get_or, set, refl, sym, ap}
use Rattle.std.proofs.Common.{◌∙◌, arith}
use Rattle.std.specs.Prelude.{is_some}
use Rattle.std.proofs.lemmas.Bool.{false≢true}
use Rattle.std.proofs.lemmas.List.{get_or-map, map-set, length-map}
use Rattle.fill_core.specs.declared.state.Hand.{Hand}
use Rattle.fill_core.specs.FillMachine.{Worker, nobody}
use Rattle.fill_core.specs.FillStates.{worker_of}

-- h is worker w
pub record Seen (hands : List Hand) (w : ℕ) (h : Hand) : Type 0 where
  pub inside : w < length (map worker_of hands)
  pub is : get_or (map worker_of hands) w nobody ≡ worker_of h

pub seen : (hands : List Hand) (w : ℕ) (h : Hand) → w < length hands → h ≡ get_or hands w h → Seen hands w h
seen hands w h below is =
    record {
      inside = omega (arith, below, length-map hands worker_of);
      is = get_or-map worker_of hands w h nobody below
          ∙ ap worker_of (sym is);
    }

-- worker w is replaced by f of it
pub seen_set :
    (hands : List Hand) (w : ℕ) (h new : Hand) (f : Worker → Worker) → Seen hands w h → worker_of new ≡ f (worker_of h)
    → map worker_of (set hands w new) ≡ set (map worker_of hands) w (f (get_or (map worker_of hands) w nobody))
seen_set hands w h new f own same =
    map-set worker_of hands w new ∙ ap (λ (v : Worker). set (map worker_of hands) w v) (same ∙ ap f (sym own.is))

pub is_none_from : {X : Type 0} (o : Option X) → is_some o ≡ false → o ≡ None
is_none_from None e = refl
is_none_from (Some x) e = absurd (false≢true (sym e))
