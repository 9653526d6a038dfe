use Rattle.std.proofs.Common.{refl}
use Rattle.channel_tables.proofs.Tables.{none_is_apart}
use Rattle.nbhd_check.proofs.verdict.judge_with_workers.Goals as goal

pub returns-in-None-clause-verdict : goal.returns-in-None-clause-verdict
returns-in-None-clause-verdict g c =
    none_is_apart c.args.table.now c.args.separation _ refl c.in-None.ensures

pub returns-in-None-clause-yes : goal.returns-in-None-clause-yes
returns-in-None-clause-yes g c = (λ yes. returns-in-None-clause-verdict g c, λ good. refl)
