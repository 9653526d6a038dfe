use Rattle.table_fill.specs.ProgramTables.{table_of}
use Rattle.headline.proofs.Agreement.{good_tables, run_agrees}
use Rattle.headline.proofs.findings.compile_run_and_judge.Goals as goal

pub returns-clause-headline : goal.returns-clause-headline
unfolding table_of
returns-clause-headline g c =
    let p = c.args.plan.now.program in
    let m = c.args.plan.now.ids in
    let compiled = c.in_ok-table.ensures in
    let good = good_tables p m c.args.separation c.in_ok-table.table (λ i. (compiled.table i).ids)
    (λ i. (compiled.table i).rounds) compiled.agrees in
    let yes = c.in-Ok-judge.ensures.yes in
    record {
      table_agrees = compiled.agrees;
      run_agrees = run_agrees p c.args.ring.now.places c.in-Ok.channels.items c.in-Ok.ensures.channels;
      yes = (λ said. good.0 (yes.0 said), λ apart. yes.1 (good.1 apart));
      verdict_is = c.in-Ok-judge.ensures.verdict;
    }
