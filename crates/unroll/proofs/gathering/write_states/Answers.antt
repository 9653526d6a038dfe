use Rattle.std.proofs.Common.{◌≡◌, ℕ, ◌+◌, List, ◌∙◌, arith}
use Rattle.round_eval.specs.BlockStates.{block_len}
use Rattle.unroll.specs.MakeFaults.{KnowsAllBelow}
use Rattle.unroll.specs.WideColumns.{HoldBlock, state_in}
use Rattle.unroll.specs.declared.upper_block.UpperBlock.{UpperBlock}
use Rattle.unroll.proofs.ColumnStates.{take_states}
use Rattle.unroll.proofs.Fronts.{states_in_columns}
use Rattle.unroll.proofs.Known.{knows_all_below}
use Rattle.unroll.proofs.gathering.write_states.Given.{Over}
use Rattle.unroll.proofs.gathering.write_states.Goals.{In_ok-gather}
use Rattle.unroll.proofs.gathering.write_states.Goals as goal

-- the number of windows of an upper block
abbrev len_in : UpperBlock → ℕ
len_in block = block_len block.plan.now.ids (block.below + 1) block.number

-- Above it the parts of all windows are known.
module _ (g : Over) (c : In_ok-gather g) where
  above : c.new-upper.result.below + 1 ≡ c.args.level
  above = omega (arith, c.new-upper.ensures.1, c.if-level-eq0.false)

  written :
      (made : List (List ℕ)) → let upper =
      c.new-upper.result in HoldBlock upper.plan.now (upper.below + 1) upper.number made
      → HoldBlock c.args.code.now c.args.level c.args.number made
      × KnowsAllBelow (g.S.Source.entries c.gather.new.source) c.args.code.now.ids c.args.level c.args.number
  written made holds =
      let block = c.new-upper.ensures in
      let plan = block.0 ∙ c.plan-plan.ensures in
      rw (← above, ← block.2, ← plan) (holds, knows_all_below _ _ _ _ c.in_ok-gather.ensures.gathered.found.taken.known)

pub returns-then-upper-clause-written : goal.returns-then-upper-clause-written
returns-then-upper-clause-written g c =
    let d = (goal.at.returns-then-upper-clause-written g c).In_ok-gather in
    let upper = c.new-upper.result in
    let gathered = c.in_ok-gather.ensures.gathered in
    let made = c.gather.new.scratch.made.states in
    let states = take_states (len_in upper) made (state_in upper)
    (omega (arith, c.in_ok-gather.ensures.ready.made_wide.0)) (gathered.found.fronts.states c.if-upper.true) in
    (record { asked = gathered.asked; found = written g d made states; missing = tt }, λ zero. absurd (omega (arith, zero, c.if-level-eq0.false)))

pub returns-clause-written : goal.returns-clause-written
returns-clause-written g c =
    let d = (goal.at.returns-clause-written g c).In_ok-gather in
    let upper = c.new-upper.result in
    let gathered = c.in_ok-gather.ensures.gathered in
    let ready = c.in_ok-gather.ensures.ready in
    let block = c.new-upper.ensures in
    let made = c.next_columns.new.out.states in
    let states = states_in_columns c.states_from_parts.ensures.next upper (len_in upper) c.gather.new.scratch made c.if-upper.false
    (omega (arith, c.next_columns.ensures.out.size.0, ready.made_wide.0)) gathered.found.fronts gathered.found.taken.lasts
    (λ i lt.
    let stepped = c.next_columns.ensures.out.states i (omega (arith, lt, ready.own_wide.0)) in
    rw (block.0, block.1, c.plan-plan.ensures) (rw (c.deref.ensures.value, c.deref-2.ensures.value) at stepped)) in
    (record { asked = gathered.asked; found = written g d made states; missing = tt }, λ zero. absurd (omega (arith, zero, c.if-level-eq0.false)))
