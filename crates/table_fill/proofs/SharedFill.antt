-- A memo and the code of its plan can be used by several threads. The lists are what is used of those that a check
-- tries at such a goal; here no value is in scope, through whose fields its search would go.
use Rattle.node_program.proofs.tree.BinOp.TheSendSync as bin_op
use Rattle.node_program.proofs.tree.UnOp.TheSendSync as un_op
use Rattle.node_program.proofs.tree.Expr.TheLaws.TheKnot
use Rattle.unroll.proofs.code.RoundCode.TheSendSync as round_code
use Rattle.column_machine.proofs.postfix.Postfix.TheSendSync as postfix
use Rattle.shared_memo.below.once_cell.proofs.race.once_box.OnceBox.TheSendSync as once_box
use Rattle.win_index.proofs.shape.Shape.TheSendSync as shape
use Rattle.std.proofs.Crossing
use Rattle.std.proofs.boxed.Box.TheSendSync as boxed
use Rattle.std.proofs.vec.Vec.TheSendSync as vec
use denote.Param.Send.{IsSync, sendable}
use denote.Ref.{NamedLft}
use Rattle.table_fill.specs.contracts.memo_fill.MemoFill as memo_fill
use Rattle.shared_memo.specs.contracts.memo.Memo as memo
use Rattle.unroll.specs.contracts.code.Code as code

pub memo_sync : (a : NamedLft) → IsSync (memo.the_row a)
memo_sync a = search (bin_op.the_field_sync, un_op.the_field_sync, once_box.the_sync, boxed.the_sync, vec.the_sync, shape.the_field_sync, Crossing.crosses, TheKnot.crosses, sendable) depth 60 fits 20000

pub code_sync : (a : NamedLft) → IsSync (code.the_row a)
code_sync a = search (postfix.the_sync, round_code.the_sync, shape.the_field_sync, Crossing.crosses, TheKnot.crosses, sendable) depth 60 fits 20000

pub memo_fill_sync : (a b : NamedLft) → IsSync (memo_fill.the_row a b)
memo_fill_sync a b = search (memo_sync, code_sync, sendable) depth 60 fits 20000
