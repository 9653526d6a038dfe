use Rattle.std.proofs.Common.{◌≡◌, ℕ, ◌+◌, ◌-◌, ◌*◌, ◌<◌, ◌≤◌, Bool, true, false, cond, nat_lt, refl, [], ◌∷◌, ◌++◌}
use Rattle.std.proofs.Common.{length, slice_get, Some, ◌∙◌, arith}
use mir.Val.{bool_byte}
use Rattle.std.proofs.Math.Nat.{mul-le-mul_left}
use Rattle.std.proofs.lemmas.Option.{slice_get_within}
use Rattle.win_index.specs.declared.limits.TheConstants.{MAX_WINDOWS}
use Rattle.channel_tables.specs.Tables.{windows_of}
use Rattle.nbhd_check.specs.Counts.{shared_len}
use Rattle.nbhd_check.proofs.Steps.{number_after}
use Rattle.nbhd_check.proofs.far_counts.Family.number_after.Goals.{After-from}
use Rattle.nbhd_check.proofs.far_counts.Family.number_after.Goals as goal

-- a truth value as a number
byte_is : (b : Bool) → bool_byte b ≡ cond b 1 0
byte_is true = refl
byte_is false = refl

-- the place of the second identifier, and the number
module _ (c : After-from) where
  abbrev next : ℕ
  next = c.place_among_unused.result - c.from.result

  abbrev free : ℕ
  free = c.ids.result - length c.args.self.shared.now

  abbrev number : ℕ
  number = c.args.self.number * free + c.place_among_unused-place.result

  placed : (c.from.result ≤ c.place_among_unused.result)
      × (slice_get (windows_of c.args.self.table.now) (number * (free - 1) + next)
      ≡ Some (c.args.self.shared.now ++ c.args.one ∷ c.args.other ∷ []))
  placed =
      let t = c.args.self.table.now in
      let some = c.args.self.some.0 in
      let len : 2 * t.rounds + 1 ≡ shared_len t + 2 = omega arith in
      let byte = c.from.ensures ∙ byte_is (nat_lt c.args.one c.args.other) in
      rw (len, c.place_among_unused.ensures, byte)
      (number_after (shared_len t) t.ids c.args.self.number c.args.one c.args.other
      c.place_among_unused-place.result _ free c.args.self.shared.now
      (rw len at c.requires) c.args.self.numbered
      (omega (arith, c.args.self.window.size, c.ids.ensures, c.shape.ensures.ids))
      c.place_among_unused-place.ensures refl)

  -- the number is small, and what it is made of is not greater
  few : (number ≤ number * (free - 1)) × (number * (free - 1) + next < MAX_WINDOWS)
  few =
      let t = c.args.self.table.now in
      let enough = c.shape.result.in_range.enough in
      let size = c.args.self.window.size in
      let some : 1 ≤ free - 1 = omega (arith, c.args.self.some.0, c.ids.ensures) in
      let within = slice_get_within (windows_of t) (number * (free - 1) + next) _ placed.1 in
      (omega (arith, mul-le-mul_left number some), omega (arith, within, c.shape.ensures.table.begun.shape.few_windows))

pub overflow_sub-next : goal.overflow_sub-next
overflow_sub-next c = (placed ((goal.at.overflow_sub-next c).After-from)).0

pub overflow_mul-result : goal.overflow_mul-result
overflow_mul-result c = let own = few ((goal.at.overflow_mul-result c).After-from) in omega (arith, own.0, own.1)

pub overflow_add-result : goal.overflow_add-result
overflow_add-result c = let own = few ((goal.at.overflow_add-result c).After-from) in omega (arith, own.0, own.1)

pub overflow_mul-result-2 : goal.overflow_mul-result-2
overflow_mul-result-2 c = let own = few ((goal.at.overflow_mul-result-2 c).After-from) in omega (arith, own.1)

pub overflow_add-result-2 : goal.overflow_add-result-2
overflow_add-result-2 c = let own = few ((goal.at.overflow_add-result-2 c).After-from) in omega (arith, own.1)

pub returns : goal.returns
returns c = (placed ((goal.at.returns c).After-from)).1
