use Rattle.std.proofs.Common.{ℕ, ◌+◌, ◌*◌, ◌<◌, ◌≤◌, List, length, arith, rules}
use Rattle.std.proofs.lemmas.Option.{slice_get_within}
use Rattle.lang_check.specs.Plans.{ProgramForIds}
use Rattle.win_index.specs.Blocks.{block_count}
use Rattle.win_index.specs.Laws.{WindowOfNumber}
use Rattle.win_index.specs.Windows.{windows}
use Rattle.unroll.specs.Below.{part, IsBelow}
use Rattle.round_eval.specs.BlockStates.{window_numbered}
use Rattle.round_eval.specs.Entries.{Entries}
use Rattle.unroll.specs.MakeFaults.{IsMakeFault}
use Rattle.unroll.specs.declared.fault.MakeFault.{MakeFault}
use Rattle.unroll.specs.declared.fault.MakeFault.TheVariants.{Missing, OutOfMemory}
use Rattle.table_fill.specs.Cells.{NamesUnknownBelow}
use Rattle.win_index.specs.declared.limits.TheConstants.{BLOCK_WINDOWS}
use Rattle.shared_memo.specs.Passes.{known}
use Rattle.table_fill.specs.declared.own_reader.OwnReader.{OwnReader}
use Rattle.table_fill.proofs.cell_maker.CellMaker.make.Goals as goal

below_is_block : (m level number low c : ℕ) → WindowOfNumber → IsBelow m level number low c → c < block_count m low
below_is_block m level number low c window below =
    let k : ℕ = 2 * low + 1 in
    let list : List ℕ = part (window_numbered m level (BLOCK_WINDOWS * number + below.place)) low below.is_part.offset in
    let there = window k m below.number list below.is_part.number_is in
    let lt = slice_get_within (windows k m) below.number list there in
    omega (arith, below.block_is, lt)

-- a block that is missing for a block of a level is one of a lower level, which is not known
missing_is_block :
    {S : Type 0} → WindowOfNumber
    → (plan : ProgramForIds) (entries : S → Entries) (old new : S) (level number : ℕ) (fault : MakeFault)
    → level ≤ length plan.program.steps → IsMakeFault entries old new plan.ids level number fault
    → NamesUnknownBelow plan (entries new) level fault
missing_is_block window plan entries old new level number (Missing low c) le is =
    let one = is.0.one_lower in
    (omega (arith, one), (omega (arith, one, le), below_is_block plan.ids level number low c window is.0), is.1)
missing_is_block window plan entries old new level number OutOfMemory le is = tt

pub returns-in-Err-clause-missing : goal.returns-in-Err-clause-missing
returns-in-Err-clause-missing c =
    let made = rw c.args.self.now.one_plan at c.in-Err.ensures.made in
    missing_is_block c.window_of_number.ensures c.args.self.now.reader.pass.plan.now (λ (r : OwnReader). known r.pass) c.args.self.now.reader c.make.new.source c.args.level
    c.args.number c.in-Err.fault c.requires.0 made

pub returns-clause-goes_on : goal.returns-clause-goes_on
returns-clause-goes_on c = record {
  same_memo = search rules;
  same_plan = search rules;
  grows = record {
    kept = λ level number b was. c.keep.ensures.learns.kept level number b
        (c.make.ensures.asked.asked.grows.kept level number b was);
  };
}

pub returns-clause-fresh : goal.returns-clause-fresh
returns-clause-fresh c = search rules
