use Rattle.report_laws.proofs.OneReport.{one_report}
use Rattle.report_laws.proofs.ToldRounds.{same_for_workers, same_for_segments}
use Rattle.report_laws.proofs.laws.one_report.Goals as goal

pub returns-clause-one : goal.returns-clause-one
returns-clause-one c =
    one_report c.one_reading.ensures c.one_text_fault.ensures.one c.one_refusal.ensures.one c.one_refusal.ensures.none
    c.one_ring_fault.ensures.one c.one_ring_fault.ensures.none c.one_witness.ensures.one c.one_witness.ensures.none
    c.one_witness-2.ensures.one c.one_witness-2.ensures.none
    c.one_table_fault.ensures.one c.table_texts_are_apart.ensures c.table_texts_are_read.ensures
    c.one_list_of_channels.ensures
    c.one_refutation_verdict.ensures.one c.one_refutation_verdict.ensures.right

pub returns-clause-workers : goal.returns-clause-workers
returns-clause-workers c = same_for_workers

pub returns-clause-segments : goal.returns-clause-segments
returns-clause-segments c = same_for_segments
