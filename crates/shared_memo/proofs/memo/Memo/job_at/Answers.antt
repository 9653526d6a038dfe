use Rattle.std.proofs.Common.{◌≡◌, ◌+◌, length, arith}
use Rattle.std.specs.Prelude.{slice_index}
use Rattle.std.proofs.lemmas.List.{get_or_read}
use Rattle.std.proofs.lemmas.Option.{slice_get_within}
use Rattle.win_index.specs.Jobs.{jobs_of}
use Rattle.shared_memo.proofs.Sets.{as_long}
use Rattle.shared_memo.proofs.memo.Memo.job_at.Goals as goal

pub returns-clause-within : goal.returns-clause-within
returns-clause-within c =
    let p = c.args.self.now.plan.now in
    let t = length p.program.steps in
    let first = slice_index c.args.self.now.first_jobs.items c.args.level in
    let value : c.index.result.now ≡ first = get_or_read c.args.self.now.first_jobs.items _ _
    (omega (arith, c.args.self.now.firsts.0, c.requires.key.0)) c.index.ensures 0 in
    let stands = (c.jobs_have_numbers.ensures.at p.ids t c.args.level c.args.number (first + c.args.number)).0
    (c.args.self.now.firsts.1 c.args.level c.args.number c.requires.key) in
    let within = slice_get_within (jobs_of p.ids t) (first + c.args.number) (c.args.level, c.args.number) stands in
    let long = as_long _ _ c.requires.pass.1 in
    let whole = c.args.self.now.whole in
    (omega (arith, value, within, whole), omega (arith, value, within, whole, long))
