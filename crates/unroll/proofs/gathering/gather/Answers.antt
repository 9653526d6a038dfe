use Rattle.std.proofs.Common.{rules, ◌≡◌, ◌+◌, ◌*◌, ◌/◌, ◌<◌, length, slice_get, Some, refl, sym, ap, ◌∙◌, arith, subst}
use Rattle.std.proofs.lemmas.List.{with_items_is}
use Rattle.win_index.specs.Windows.{windows, IsWindow}
use Rattle.win_index.specs.declared.limits.TheConstants.{BLOCK_WINDOWS}
use Rattle.round_eval.specs.BlockStates.{block_len, window_numbered}
use Rattle.unroll.specs.Parts.{window_in, IsKnownBlock}
use Rattle.unroll.specs.WideColumns.{AreGathered}
use Rattle.unroll.proofs.Known.{still_known, window_at, asked_both, missing_later, entry_grows, if_some_more}
use Rattle.unroll.proofs.NextBuckets.{next_bucket, some_bucket_follows, first_place}
use Rattle.unroll.proofs.SameBucket.{first_grows}
use Rattle.unroll.proofs.gathering.gather.Given.{Over}
use Rattle.unroll.proofs.gathering.gather.Goals.{After-take_fronts}
use Rattle.unroll.proofs.gathering.gather.Goals as goal

pub loop-bucket-init : goal.loop-bucket-init
loop-bucket-init g c =
    let upper = c.args.upper in
    let m = upper.plan.now.ids in
    let low = upper.below in
    let w = c.args.window.now in
    let first = c.requires.window in
    let zero : BLOCK_WINDOWS * upper.number + 0 ≡ BLOCK_WINDOWS * upper.number = omega arith in
    let own : window_in upper 0 ≡ w =
    ap (window_numbered m (low + 1)) zero ∙ window_at m (low + 1) (BLOCK_WINDOWS * upper.number) w first.here in
    let long : 2 * (low + 1) + 1 ≡ 2 * low + 3 = omega arith in
    record {
      asked = record { same_plan = refl; same_fixed = refl; grows = record { kept = λ level n block known. known } };
      here = record {
        is = record {
          inside = omega (arith, upper.inside);
          here = subst (λ n. slice_get (windows (2 * (low + 1) + 1) m) n ≡ Some w) (sym zero) first.here
              ∙ ap Some (sym own);
          window = rw own (subst (λ k. IsWindow k m w) long first.window);
        };
        has = rw (own, ← c.shape-shape.ensures.ids) c.bucket_prefixes_from-prefixes.ensures.prefix;
      };
      lists = (
        c.bucket_prefixes_from-prefixes.ensures.ids
            ∙ c.shape-shape.ensures.ids,
        c.bucket_prefixes_from-prefixes.ensures.len,
      );
      placed = record {
        place_is = rw own (sym c.place_in_bucket-place.ensures.value);
        inside = rw (own, ← c.shape-shape.ensures.ids) c.place_in_bucket-place.ensures.inside;
      };
      near = record { first = tt; middle = tt; last = tt };
      ready = c.requires.ready;
      gathered = search rules;
    }

pub returns-in_err-bucket-clause-gathered : goal.returns-in_err-bucket-clause-gathered
returns-in_err-bucket-clause-gathered g c =
    missing_later _ c.from_residual.ensures.1 c.loop-bucket.invariant.asked c.in_err-bucket.ensures

pub returns-in_err-after-clause-gathered : goal.returns-in_err-after-clause-gathered
returns-in_err-after-clause-gathered g c =
    missing_later _ c.from_residual-in_err-after.ensures.1
    (asked_both c.loop-bucket.invariant.asked c.in_ok-bucket.ensures.asked) c.in_err-after.ensures

pub gather_bucket-requires : goal.gather_bucket-requires
gather_bucket-requires g c κs =
    let plan = c.args.upper.plan.now in
    let low = c.args.upper.below in
    let entries = g.S.Source.entries in
    let old = entries c.loop-bucket.source in
    let new = entries c.start_bucket.new.source in
    let before = c.loop-bucket.invariant in
    let answer = c.in_ok-bucket.ensures in
    let grows = answer.asked.grows in (
      (refl, tt),
      (
        (asked_both before.asked answer.asked).same_plan ∙ c.requires.plan,
        (
          record {
            inside = before.here.is.inside;
            bucket = answer.found;
            here = record {
              here = before.here.is.here;
              same = refl;
              is = record { window_is = grind (arith, before.here.is.window); bucket_has = answer.found.places_are; place_is = grind (arith, before.placed.place_is) };
            };
            before_end = omega (arith, before.placed.inside, answer.found.places_are.end);
            last = if_some_more (λ b. IsKnownBlock plan old low b.now) (λ b. IsKnownBlock plan new low b.now) c.loop-bucket.near.last
                (λ b is. entry_grows plan old new low b.now.number b.now grows is) before.near.last;
          },
          (
            ap length c.deref_mut.ensures.value ∙ before.ready.from_right_wide,
            record {
              lasts = rw c.deref_mut.ensures.value before.gathered.taken.lasts;
              known = λ lower j one lt n is. still_known old new lower (n / BLOCK_WINDOWS) grows
                  (before.gathered.taken.known lower j one lt n is);
            },
          ),
        ),
      ),
    )

-- taking the first parts leaves the last ones
module _ (g : Over) (c : After-take_fronts g) where
  gathered : AreGathered (g.S.Source.entries c.gather_bucket.new.source) c.args.upper c.in_ok-after.after c.take_fronts.new.scratch
  gathered =
      let whole = with_items_is c.loop-bucket.scratch.from_right c.gather_bucket.new.sent (c.gather_bucket.auto.sent
      ∙ c.deref_mut.ensures.len) in
      record { fronts = c.take_fronts.ensures.held.0; taken = rw (c.take_fronts.ensures.held.1, whole) c.in_ok-after.ensures.found.taken.taken }

pub returns-then-after-len-clause-gathered : goal.returns-then-after-len-clause-gathered
returns-then-after-len-clause-gathered g c =
    let upper = c.args.upper in
    let len = c.args.upper.len_is in
    let done : c.in_ok-after.after ≡ block_len upper.plan.now.ids (upper.below + 1) upper.number =
    omega (arith, len, c.if-after-len.true) in
    let all = gathered g (goal.at.returns-then-after-len-clause-gathered g c).After-take_fronts in
    record {
      asked = asked_both (asked_both c.loop-bucket.invariant.asked c.in_ok-bucket.ensures.asked)
          c.in_ok-after.ensures.asked;
      found = subst (λ count. AreGathered (g.S.Source.entries c.gather_bucket.new.source) upper count c.take_fronts.new.scratch) done all;
      missing = tt;
    }

pub unreachable-requires : goal.unreachable-requires
unreachable-requires g c =
    let upper = c.args.upper in
    let bucket = c.in_ok-after.ensures.found in
    let len = c.args.upper.len_is in
    let within : c.in_ok-after.after < block_len upper.plan.now.ids (upper.below + 1) upper.number = omega (arith, len, bucket.within, c.if-after-len.false) in
    some_bucket_follows upper c.loop-bucket.index c.in_ok-after.after c.loop-bucket.prefixes.prefix
    (omega (arith, bucket.later)) within (bucket.ended within)
    c.loop-bucket.invariant.here.has
    (rw (c.loop-bucket.invariant.lists.1, c.loop-bucket.invariant.lists.0) at c.in_default.ensures.last)

pub loop-bucket-preserved : goal.loop-bucket-preserved
loop-bucket-preserved g c =
    let upper = c.args.upper in
    let plan = upper.plan.now in
    let low = upper.below in
    let after = c.in_ok-after.after in
    let entries = g.S.Source.entries in
    let before = c.loop-bucket.invariant in
    let asked = c.in_ok-bucket.ensures in
    let went = c.in_ok-after.ensures in
    let bucket = went.found in
    let len = c.args.upper.len_is in
    let within : after < block_len plan.ids (low + 1) upper.number =
    omega (arith, len, bucket.within, c.if-after-len.false) in
    let next = next_bucket upper c.loop-bucket.index after c.loop-bucket.prefixes.prefix
    (omega (arith, bucket.later)) within
    (bucket.ended within)
    before.here.has c.in-Some.next.prefix (rw (before.lists.1, before.lists.0) at c.in-Some.ensures.next) in
    let places = rw c.shape-shape.ensures.ids at
    (c.prefix_places.ensures (window_in upper after) (rw c.shape-shape.ensures.ids next.at'.is.window)
    (rw (c.shape-shape.ensures.ids, c.prefix-in-loop-bucket.ensures) next.at'.has)) in
    record {
      asked = asked_both (asked_both before.asked asked.asked) went.asked;
      here = next.at';
      lists = rw c.in-Some.ensures.lists before.lists;
      placed = first_place upper after c.first-place.result c.in-Some.next.prefix c.prefix_places.result next places c.first-place.ensures.place c.first-place.ensures.inside;
      near = record {
        first = first_grows plan (entries c.start_bucket.new.source) (entries c.gather_bucket.new.source) low went.asked.grows _ asked.found.first_is.first_is;
        middle = entry_grows plan (entries c.start_bucket.new.source) (entries c.gather_bucket.new.source) low _ _ went.asked.grows asked.found.middle_is;
        last = bucket.last_is;
      };
      ready = c.take_fronts.ensures.ready;
      gathered = gathered g (goal.at.loop-bucket-preserved g c).After-take_fronts;
    }
