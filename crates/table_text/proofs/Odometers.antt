-- The window that an odometer shows.
use Rattle.std.proofs.Common.{◌≡◌, ℕ, ◌+◌, ◌-◌, ◌*◌, ◌<◌, ◌≤◌, List, [], length, length-take, length-take-le, take}
use Rattle.std.proofs.Common.{take_all, drop, get_or, All, refl, ap, sym, subst, ◌∙◌, arith}
use Rattle.std.proofs.lemmas.List.{take-take, get_or-take, get_or-drop, length_push}
use Rattle.std.proofs.lemmas.List.Elements.{All-push, All-from_get_or}
use Rattle.win_index.specs.Windows.{unused, IsWindow}
use Rattle.win_index.specs.declared.limits.TheConstants.{MAX_IDS, MAX_WINDOW_LEN}
use Rattle.win_index.proofs.Windows.{unused_is}
use Rattle.table_text.specs.Orders.{IsOrder, IsLater, ArePlaces}
use Rattle.table_text.specs.Odometers.{IsOdometer, ShowsWindow, ShowsNumber, IsAdvanced, front_of, last_of, window_of}
use Rattle.table_text.specs.declared.odometer.Odometer.{Odometer}
use Rattle.table_text.specs.declared.line_prefix.LinePrefix.{LinePrefix}
use Rattle.table_text.specs.Pieces.{prefix_text}
use Rattle.table_text.specs.Prefixes.{HasTexts}
use Rattle.table_text.specs.TableText.{ids_then}
use Rattle.table_text.proofs.Orders.{lacked_in_turn, last_place, places_kept}

-- the number at a place after the window
pub later_below : (k m last : ℕ) (order : List ℕ) → IsOrder k m (take m order) → k ≤ last → last < m →
    get_or order last 0 < m
later_below k m last order is from lt =
    let i : ℕ = last - k in
    let here : k + i ≡ last = omega arith in
    let x : get_or (take m order) (k + i) 0 ≡ get_or order last 0 = rw here (get_or-take m order last 0 lt) in
    rw x at (unused_is (take k (take m order)) m i _ (lacked_in_turn k m i (take m order) is (omega arith))).below

-- the last identifiers of windows of the bucket
pub bucket_below : (o : Odometer) (count : ℕ) → IsOdometer o → o.last + count ≤ o.ids →
    All (λ id. id < o.ids) (take count (drop o.last o.order))
bucket_below o count is le =
    let ids = take count (drop o.last o.order) in
    All-from_get_or (λ id. id < o.ids) ids 0 (λ k lt.
    let few : k < count = omega (arith, length-take count (drop o.last o.order)) in
    let item : get_or ids k 0 ≡ get_or o.order (o.last + k) 0 =
    get_or-take count (drop o.last o.order) k 0 few ∙ get_or-drop o.last o.order k 0 in
    subst (λ id. id < o.ids) (sym item)
    (later_below o.front o.ids (o.last + k) o.order is.order (omega (arith, is.from)) (omega arith)))

pub window_below : (o : Odometer) → IsOdometer o → All (λ x. x < o.ids) (window_of o)
window_below o is =
    All-push (λ x. x < o.ids) (front_of o) (last_of o)
    (subst (λ l. All (λ x. x < o.ids) l) (take-take o.front o.ids o.order (omega (arith, is.from, is.within)))
    is.order.window.below)
    (later_below o.front o.ids o.last o.order is.order is.from is.within)

pub window_size : (o : Odometer) → IsOdometer o → length (window_of o) ≡ o.front + 1
window_size o is =
    omega (
      arith,
      length_push (front_of o) (last_of o),
      length-take o.front o.order,
      length-take o.ids o.order,
      is.order.size,
      is.from,
      is.within,
    )

-- the text of the prefix has at most 8 bytes for each identifier
pub prefix_short : (o : Odometer) → IsOdometer o → length (prefix_text o.prefix) ≤ 8 * o.front
prefix_short o is =
    let size : length (front_of o) ≡ o.front =
    length-take-le o.front o.order (omega (arith, length-take o.ids o.order, is.order.size, is.from, is.within)) in
    let end : ℕ = get_or o.prefix.ends (length (front_of o)) 0 in
    let text : take end o.prefix.bytes ≡ ids_then (front_of o) [] =
    is.texts.each (length (front_of o)) (omega arith)
    ∙ ap (λ l. ids_then l []) (take_all _ (front_of o) (omega arith)) in
    omega (
      arith,
      ap length is.text,
      ap length text,
      length-take end o.prefix.bytes,
      is.texts.few (length (front_of o)) (omega arith),
      size,
    )

-- a later window, of known sizes
pub later_at : (count k m : ℕ) (old new : Odometer) → old.front ≡ k → old.ids ≡ m →
    IsLater count (old.front + 1) old.ids (window_of old) (window_of new)
    → IsLater count (k + 1) m (window_of old) (window_of new)
later_at count k m old new front_is ids_is later =
    subst (λ n. IsLater count (k + 1) n (window_of old) (window_of new)) ids_is
    (subst (λ n. IsLater count (n + 1) old.ids (window_of old) (window_of new)) front_is later)

-- an odometer that was advanced
pub shows_later : (count t m n : ℕ) (old new : Odometer) → ShowsNumber t m n old → IsAdvanced count old new
    → ShowsNumber t m (n + count) new
shows_later count t m n old new shows is =
    record {
      odometer = is.odometer;
      front = is.front ∙ shows.front;
      ids = is.ids ∙ shows.ids;
      window = λ within.
          later_at count (2 * t) m old new shows.front shows.ids is.later n (shows.window (omega arith)) within;
    }

-- an odometer with the order of a window's prefix shows the window
pub shows_window : (k m last : ℕ) (window order places : List ℕ) (prefix : LinePrefix) → m ≤ MAX_IDS
    → k < MAX_WINDOW_LEN → IsWindow (k + 1) m window → IsOrder k m (take m order) →
    take k (take m order) ≡ take k window
    → ArePlaces k (take k window) places →
    last ≡ k + length (unused (get_or window k 0) (take k window))
    → HasTexts prefix.bytes prefix.ends (take k window) → prefix_text prefix ≡ ids_then (take k window) []
    → ShowsWindow m window
    (record { order = order; ids = m; places = places; front = k; last = last; prefix = prefix })
shows_window k m last window order places prefix few short is ordered same are place texts text =
    let at' = last_place k m last window (take m order) is ordered same place in
    let front : take k order ≡ take k window =
    sym (take-take k m order (omega (arith, at'.0, place))) ∙ same in
    let item : get_or (take m order) last 0 ≡ get_or order last 0 = get_or-take m order last 0 at'.0 in
    record {
      odometer = record {
        few = few;
        short = short;
        order = ordered;
        places = places_kept k (take k window) order places are (front ∙ sym (take-take k k window (omega arith)));
        from = omega (arith, place);
        within = at'.0;
        texts = rw front texts;
        text = rw front text;
      };
      front = sym is.size;
      ids = refl;
      shown = rw front (rw (same, item) at at'.1);
    }
