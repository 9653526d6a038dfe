use Rattle.report_laws.proofs.ToldRounds.{print_tells}
use Rattle.report_laws.proofs.laws.prints_are_read_back.Goals as goal

pub returns : goal.returns
returns c = print_tells c.one_reading.ensures c.printed_is_read_back.ensures.reads
