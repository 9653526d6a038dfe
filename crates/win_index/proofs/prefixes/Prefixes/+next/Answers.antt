use Rattle.std.proofs.Common.{◌≡◌, ◌≤◌, ◌+◌, ◌-◌, subst, arith}
use Rattle.win_index.specs.BucketPrefixes.{IsNextPrefix, IsLastPrefix}
use Rattle.win_index.proofs.BucketPrefixSteps.{at_longer, in_bucket, to_next_bucket, no_next_bucket}
use Rattle.win_index.proofs.SeriesPlaces.{at_place}
use Rattle.win_index.proofs.prefixes.Prefixes.+next.Goals as goal

pub after-requires : goal.after-requires
after-requires t c =
    let some : 2 ≤ c.args.self.len - 1 = omega arith in
    let len : c.args.self.len - 1 + 1 ≡ c.args.self.len = omega arith in
    let is = c.without_last-place.ensures c.requires.list (rw len c.requires.has) in
    (at_place (omega (arith, some)) (at_longer c.places.result some c.places.ensures is)).inside

pub longer-requires : goal.longer-requires
longer-requires t c =
    let some : 2 ≤ c.args.self.len - 1 = omega arith in
    let len : c.args.self.len - 1 + 1 ≡ c.args.self.len = omega arith in
    let is = c.without_last-place.ensures c.requires.list (rw len c.requires.has) in
    let step = in_bucket c.places.result some c.places.ensures is c.in-Some.next
    c.in-Some.ensures.next in
    (step.0, step.2)

pub returns-in-Some-clause-next : goal.returns-in-Some-clause-next
returns-in-Some-clause-next t c =
    let some : 2 ≤ c.args.self.len - 1 = omega arith in
    let len : c.args.self.len - 1 + 1 ≡ c.args.self.len = omega arith in
    subst (λ k. IsNextPrefix k c.args.self.ids c.args.prefix c.longer.result) len
    (λ list has.
    let step = in_bucket c.places.result some c.places.ensures (c.without_last-place.ensures list has) c.in-Some.next
    c.in-Some.ensures.next in
    (step.0, step.1, c.longer.ensures step.0 step.2))

pub returns-in_default-next-clause-last : goal.returns-in_default-next-clause-last
returns-in_default-next-clause-last t c =
    let some : 2 ≤ c.args.self.len - 1 = omega arith in
    let len : c.args.self.len - 1 + 1 ≡ c.args.self.len = omega arith in
    subst (λ k. IsLastPrefix k c.args.self.ids c.args.prefix) len
    (λ list has.
    no_next_bucket c.places.result some c.places.ensures (c.without_last-place.ensures list has)
    c.in_default.ensures.last c.in_default-next.ensures.last)

pub longer-requires-2 : goal.longer-requires-2
longer-requires-2 t c =
    let some : 2 ≤ c.args.self.len - 1 = omega arith in
    let len : c.args.self.len - 1 + 1 ≡ c.args.self.len = omega arith in
    let is = c.without_last-place.ensures c.requires.list (rw len c.requires.has) in
    let step = to_next_bucket c.places.result some c.places.ensures is c.in_default.ensures.last c.first.result
    c.in-Some-next.later c.places-2.result (omega (arith, c.args.self.short)) c.in-Some-next.ensures.next
    c.places-2.ensures c.first.ensures.place in
    (step.0, step.2)

pub returns-clause-next : goal.returns-clause-next
returns-clause-next t c =
    let some : 2 ≤ c.args.self.len - 1 = omega arith in
    let len : c.args.self.len - 1 + 1 ≡ c.args.self.len = omega arith in
    subst (λ k. IsNextPrefix k c.args.self.ids c.args.prefix c.longer-2.result) len
    (λ list has.
    let step = to_next_bucket c.places.result some c.places.ensures (c.without_last-place.ensures list has)
    c.in_default.ensures.last c.first.result c.in-Some-next.later c.places-2.result (omega (arith, c.args.self.short))
    c.in-Some-next.ensures.next c.places-2.ensures c.first.ensures.place in
    (step.0, step.1, c.longer-2.ensures step.0 step.2))
