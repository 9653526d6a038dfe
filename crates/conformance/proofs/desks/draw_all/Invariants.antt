use Rattle.std.proofs.Common.{◌≡◌, ◌-◌, length}
use Rattle.shared_memo.specs.Tickets.{drawn, told, numbers_of, IsTicketOf}
use Rattle.conformance.proofs.desks.draw_all.Given as goal

abbrev pub invariant-loop-number : goal.invariant-loop-number
invariant-loop-number l = record {
  of_desk : IsTicketOf l.desk l.ticket;
  untold : told l.ticket ≡ 0;
}

abbrev pub decreases-loop-number : goal.decreases-loop-number
decreases-loop-number l = numbers_of l.desk - length (drawn l.ticket)
