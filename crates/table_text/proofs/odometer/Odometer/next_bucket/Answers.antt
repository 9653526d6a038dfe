use Rattle.std.proofs.Common.{◌≡◌, ◌+◌, ◌≤◌, length, length-take, length-take-le, take, take_all, refl, sym, subst, ◌∙◌}
use Rattle.std.proofs.Common.{arith, rules}
use Rattle.std.proofs.lemmas.List.{take-append-le, get_or_append_left}
use Rattle.table_text.specs.Prefixes.{HasTexts}
use Rattle.table_text.proofs.Orders.{next_bucket, kept_front, places_kept}
use Rattle.table_text.proofs.PrefixTexts.{texts_front}
use Rattle.table_text.proofs.odometer.Odometer.next_bucket.Goals as goal

pub show-requires-clause-kept : goal.show-requires-clause-kept
show-requires-clause-kept c =
    let o = c.args.self.now in
    let is = c.requires.is.0 in
    let made = c.next_front-kept.ensures in
    let kept = c.next_front-kept.result in
    let size : length c.next_front-kept.new.order ≡ o.ids = made.step.order.size ∙ is.order.size in
    let le : o.front ≤ o.ids = omega (arith, is.from, is.within) in
    let short : o.front ≤ length c.next_front-kept.new.order = omega (arith, size, le) in
    let old : length (take o.front o.order) ≡ o.front =
    length-take-le o.front o.order (omega (arith, length-take o.ids o.order, is.order.size)) in (
      rw (take-append-le o.front c.next_front-kept.new.order _ short)
          (omega (arith, made.few, length-take-le o.front c.next_front-kept.new.order short)),
      subst (HasTexts o.prefix.bytes o.prefix.ends)
          (sym (kept_front kept o.front o.ids o.order c.next_front-kept.new.order _ made.few le size made.kept))
          (texts_front o.prefix.bytes o.prefix.ends (take o.front o.order) kept is.texts
          (omega (arith, made.few, old))),
    )

pub returns : goal.returns
returns c =
    let o = c.args.self.now in
    let is = c.requires.is.0 in
    let new = c.next_front-kept.new.order in
    let last : o.last + 1 ≡ o.ids = omega (arith, is.within, c.requires.is.1) in
    let made = c.next_front-kept.ensures in
    let size : length new ≡ o.ids = made.step.order.size ∙ is.order.size in
    let step = next_bucket o.front o.ids o.last o.order new is.order is.from last
    (rw is.order.size at made.step) in
    record {
      odometer = record {
        few = is.few;
        short = is.short;
        order = rw (take-append-le o.ids new _ (omega (arith, size)), take_all o.ids new (omega (arith, size)))
            (rw is.order.size at made.step.order);
        places = places_kept o.front new _ c.next_front-kept.new.places made.places
            (take-append-le o.front new _ (omega (arith, size, is.from, is.within)));
        from = omega arith;
        within = omega (arith, is.from, is.within);
        texts = search rules;
        text = search rules;
      };
      front = refl;
      ids = refl;
      later =
          rw (
            take-append-le o.front new _ (omega (arith, size, is.from, is.within)),
            get_or_append_left new _ 0 o.front (omega (arith, size, is.from, is.within)),
          ) step;
    }
