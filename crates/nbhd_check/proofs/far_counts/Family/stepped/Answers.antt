use Rattle.std.proofs.Common.{ℕ, ◌+◌, ◌-◌, length, refl, arith}
use Rattle.std.proofs.lemmas.Option.{slice_get_within}
use Rattle.channel_tables.specs.Tables.{windows_of}
use Rattle.nbhd_check.specs.declared.far_counts.PairNumbers.{PairNumbers}
use Rattle.nbhd_check.proofs.Steps.{next_numbers}
use Rattle.nbhd_check.proofs.far_counts.Family.stepped.Goals as goal

pub overflow_add-result : goal.overflow_add-result
overflow_add-result c =
    let t = c.args.self.table.now in
    let below = slice_get_within (windows_of t) c.args.numbers.before _ c.requires.1.1.before in
    omega (arith, below, c.args.self.each_is.1, c.shape.ensures.table.begun.shape.few_windows)

pub overflow_add-result-2 : goal.overflow_add-result-2
overflow_add-result-2 c =
    let t = c.args.self.table.now in
    let below = slice_get_within (windows_of t) c.args.numbers.after _ c.requires.1.1.after in
    omega (arith, below, c.shape.ensures.table.begun.shape.few_windows)

pub overflow_add-result-3 : goal.overflow_add-result-3
overflow_add-result-3 c =
    let t = c.args.self.table.now in
    let shape = c.shape.ensures.table.begun.shape in
    let below = slice_get_within (windows_of t) c.args.numbers.turned _ c.requires.1.1.turned in
    omega (arith, below, shape.few_windows, shape.ids.few, c.ids.ensures, c.shape.ensures.ids)

pub returns : goal.returns
returns c = λ first second are is.
    let t = c.args.self.table.now in
    let old = c.args.numbers in
    let free : ℕ = c.ids.result - length c.args.self.shared.now in
    let size = c.args.self.window.size in
    let each = c.args.self.each_is.0 in
    let new : PairNumbers = record { before = old.before + c.args.self.each; after = old.after + 1; turned = old.turned + (free - 1) } in
    next_numbers t c.args.self.shared.now first second free old new size are is
    (omega arith) (omega arith) refl refl
