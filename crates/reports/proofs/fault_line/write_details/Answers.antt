use Rattle.reports.proofs.fault_line.write_details.Goals as goal

pub returns-in-Program : goal.returns-in-Program
returns-in-Program c = rw c.in-Program.is (c.write_check_details.ensures c.in-Program.program c.in-Program.ids)

pub returns-in-Ring : goal.returns-in-Ring
returns-in-Ring c = rw c.in-Ring.is (c.write_ring_details.ensures c.in-Ring.ids c.in-Ring.rounds c.in-Ring.places.items)
