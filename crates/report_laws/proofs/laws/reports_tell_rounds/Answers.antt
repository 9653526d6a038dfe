use Rattle.report_laws.proofs.ToldRounds.{judge_solves, judge_tells, run_tells, trace_tells, trace_ends, explain_tells}
use Rattle.report_laws.proofs.ToldRounds.{explain_shows, plan_tells, table_tells}
use Rattle.report_laws.proofs.laws.reports_tell_rounds.Goals as goal

pub returns : goal.returns
returns c =
    let reading = c.one_reading.ensures in
    let accepted = c.one_refusal.ensures.none in
    let ring = c.one_ring_fault.ensures.none in
    record {
      judge = judge_tells reading accepted c.one_witness.ensures.none c.program_tables_are_apart.ensures;
      solve = judge_solves reading accepted c.one_witness-2.ensures.none c.program_tables_solve.ensures;
      run = run_tells reading accepted ring;
      trace = trace_tells reading accepted ring;
      finish = trace_ends reading accepted ring;
      explain = explain_tells reading accepted ring;
      shows = explain_shows c.explanations_show_traces.ensures reading accepted ring;
      plan = plan_tells reading accepted ring;
      table = table_tells reading accepted c.table_has_the_channels_of_rounds.ensures;
    }
