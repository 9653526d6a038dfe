use Rattle.std.proofs.Common.{◌≡◌, ℕ, List, ◌+◌, ◌-◌, ◌≤◌, subst, sym, arith}
use Rattle.win_index.specs.BucketPrefixes.{HasNumbers, IsLonger, IsNextPrefix, IsLastPrefix}
use Rattle.win_index.proofs.BucketPrefixSteps.{GivesPlaces, at_longer, in_bucket, to_next_bucket, no_next_bucket}
use Rattle.win_index.proofs.SeriesPlaces.{at_place}
use Rattle.win_index.proofs.bucket_prefixes.BucketPrefixes.step.Goals.{After-places}
use Rattle.win_index.proofs.bucket_prefixes.BucketPrefixes.step.Goals as goal

pub returns-then-lists-eq2-clause-next : goal.returns-then-lists-eq2-clause-next
returns-then-lists-eq2-clause-next c =
    subst (λ n. IsNextPrefix n c.args.self.lists.ids c.args.self.prefix c.new.result.prefix) (sym c.if-lists-eq2.true)
    (subst (IsNextPrefix 2 c.args.self.lists.ids c.args.self.prefix) (sym c.new.ensures.prefix) c.in-Some.ensures.next)

-- the list without its last identifier
module _ (c : After-places) where
  some : 2 ≤ c.args.self.lists.len - 1
  some = omega (arith, c.args.self.lists.some, c.if-lists-eq2.false)

  len : c.args.self.lists.len - 1 + 1 ≡ c.args.self.lists.len
  len = omega (arith, some)

  gives : GivesPlaces (c.args.self.lists.len - 1) c.args.self.lists.ids c.args.self.front c.places.result
  gives = rw (c.shorter-shorter.ensures.0, c.shorter-shorter.ensures.1) at c.places.ensures

  own : (list : List ℕ) → HasNumbers (c.args.self.lists.len - 1 + 1) c.args.self.lists.ids list c.args.self.prefix
      → IsLonger (c.args.self.lists.len - 1) c.args.self.lists.ids c.args.self.front c.args.self.place list
  own list has = c.args.self.parts list
      (subst (λ n. HasNumbers n c.args.self.lists.ids list c.args.self.prefix) len has) (omega (arith, some))

  here : IsLonger (c.args.self.lists.len - 1) c.args.self.lists.ids c.args.self.front c.args.self.place c.requires.list
  here = c.args.self.parts c.requires.list c.requires.has (omega (arith, some))

pub after-requires : goal.after-requires
after-requires c = (at_place (omega (arith, some c)) (at_longer c.places.result (some c) (gives c) (here c))).inside

pub longer-requires-clause-list : goal.longer-requires-clause-list
longer-requires-clause-list c =
    let d = (goal.at.longer-requires-clause-list c).After-places in
    let step = in_bucket c.places.result (some d) (gives d) (here d)
    c.in-Some-after.place c.in-Some-after.ensures.next in
    (step.0, step.2)

pub returns-in-Some-after-clause-next : goal.returns-in-Some-after-clause-next
returns-in-Some-after-clause-next c =
    let d = (goal.at.returns-in-Some-after-clause-next c).After-places in
    let lists = c.args.self.lists in
    subst (λ n. IsNextPrefix n lists.ids c.args.self.prefix c.longer.result.prefix) (len d)
    (λ list has.
    let step = in_bucket c.places.result (some d) (gives d) (own d list has) c.in-Some-after.place c.in-Some-after.ensures.next in
    (step.0, step.1, subst (λ n. HasNumbers n lists.ids step.0 c.longer.result.prefix) (sym (len d)) (c.longer.ensures.prefix step.0 step.2)))

pub returns-in_default-next-clause-last : goal.returns-in_default-next-clause-last
returns-in_default-next-clause-last c =
    let d = (goal.at.returns-in_default-next-clause-last c).After-places in
    let lists = c.args.self.lists in
    subst (λ n. IsLastPrefix n lists.ids c.args.self.prefix) (len d)
    (λ list has. no_next_bucket c.places.result (some d) (gives d) (own d list has) c.in_default-after.ensures.last
    (rw (c.shorter-shorter.ensures.0, c.shorter-shorter.ensures.1) at c.in_default-next.ensures.last))

pub longer-requires-2-clause-list : goal.longer-requires-2-clause-list
longer-requires-2-clause-list c =
    let d = (goal.at.longer-requires-2-clause-list c).After-places in
    let lists = c.args.self.lists in
    let e = c.shorter-shorter.ensures in
    let step = to_next_bucket c.places.result (some d) (gives d) (here d) c.in_default-after.ensures.last c.first-place.result
    c.in-Some-next.front c.places-2.result (omega (arith, lists.short)) (rw (e.0, e.1) at c.in-Some-next.ensures.next)
    (rw (e.0, e.1) at c.places-2.ensures) c.first-place.ensures.place in
    (step.0, step.2)

pub returns-clause-next : goal.returns-clause-next
returns-clause-next c =
    let d = (goal.at.returns-clause-next c).After-places in
    let lists = c.args.self.lists in
    let e = c.shorter-shorter.ensures in
    subst (λ n. IsNextPrefix n lists.ids c.args.self.prefix c.longer-2.result.prefix) (len d)
    (λ list has.
    let step = to_next_bucket c.places.result (some d) (gives d) (own d list has) c.in_default-after.ensures.last c.first-place.result
    c.in-Some-next.front c.places-2.result (omega (arith, lists.short)) (rw (e.0, e.1) at c.in-Some-next.ensures.next)
    (rw (e.0, e.1) at c.places-2.ensures) c.first-place.ensures.place in
    (step.0, step.1, subst (λ n. HasNumbers n lists.ids step.0 c.longer-2.result.prefix) (sym (len d)) (c.longer-2.ensures.prefix step.0 step.2)))
