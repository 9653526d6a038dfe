use Rattle.std.proofs.Common.{◌≡◌, ◌-◌, length}
use Rattle.shared_memo.specs.Passes.{known}
use Rattle.shared_memo.specs.Tickets.{drawn, told, worker_of, IsTicketOf}
use Rattle.shared_memo.specs.Filled.{AreKnown}
use Rattle.table_fill.proofs.memo_fill.MemoFillJobs.fill.Given as goal

abbrev pub invariant-loop-job : goal.invariant-loop-job
invariant-loop-job g l = record {
  ticket : IsTicketOf l.desk l.ticket;
  untold : told l.ticket ≡ 0;
  worker : worker_of l.ticket ≡ worker_of l.fn.ticket;
  same_plan : l.cells.reader.pass.plan.now ≡ l.self.memo.now.plan.now;
  same_memo : l.cells.reader.memo.now ≡ l.self.memo.now;
  filled : AreKnown l.self.memo.now.plan.now (known l.cells.reader.pass) (drawn l.ticket);
}

abbrev pub decreases-loop-job : goal.decreases-loop-job
decreases-loop-job g l = l.desk.total - length (drawn l.ticket)
