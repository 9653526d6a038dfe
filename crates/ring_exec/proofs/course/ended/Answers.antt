use Rattle.std.proofs.Common.{rules, ◌≡◌, vec_len, subst}
use Rattle.std.specs.Prelude.{IfOk}
use Rattle.ring_exec.proofs.Falling.{same_index, next_index, last_joined}
use Rattle.ring_exec.proofs.course.ended.Goals as goal

pub returns-clause-all : goal.returns-clause-all
returns-clause-all g c =
    let progress = c.args.course.progress in
    let next = (c.requires.next (search rules)).next in
    let index = next_index progress.index (vec_len progress.threads) progress.waiting.items c.pop.new.self.items c.in-Some-pop.segment c.in-Some-pop.ensures.items next in
    last_joined progress.joined c.add.new.self c.join_all-2.result (vec_len progress.threads) c.run.result c.add.ensures.added
    (subst (λ n. IfOk c.run.result (λ segment. segment.index ≡ n)) index (same_index c.in-Some-pop.segment c.run.result c.run.ensures.segment)) c.join_all-2.ensures.all
