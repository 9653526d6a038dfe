use Rattle.std.proofs.Common.{[], ◌∷◌, codes, ◌∙◌}
use Rattle.json_reports.specs.Json.{kind, numbered, size_fields}
use Rattle.json_reports.proofs.Closings.{more}
use Rattle.json_reports.proofs.answers.put_answer.Goals as goal

pub returns-in_ok-put_bounds-in-Accepted : goal.returns-in_ok-put_bounds-in-Accepted
returns-in_ok-put_bounds-in-Accepted c =
    let a = c.in-Accepted in
    let sizes = size_fields a.ids a.rounds a.channels in
    rw a.is (record {
      ok = more _ _ _ (kind (codes "accepted") ∷ sizes)
          (numbered (codes "bound") a.bound ∷ numbered (codes "windows") a.windows ∷ [])
          (more _ _ _ (kind (codes "accepted") ∷ []) sizes c.in_ok-put_text-in-Accepted.ensures.ok c.in_ok-put_sizes-in-Accepted.ensures.ok)
          c.in_ok-put_bounds-in-Accepted.ensures.ok;
      before = c.in_ok-put_bounds-in-Accepted.ensures.before ∙ c.in_ok-put_sizes-in-Accepted.ensures.before
          ∙ c.in_ok-put_text-in-Accepted.ensures.before;
    })

pub returns-in_ok-put_program-in-Program : goal.returns-in_ok-put_program-in-Program
returns-in_ok-put_program-in-Program c =
    rw c.in-Program.is (record { ok = c.in_ok-put_program-in-Program.ensures.ok; before = c.in_ok-put_program-in-Program.ensures.before })

pub returns-in_ok-put_no-in-No : goal.returns-in_ok-put_no-in-No
returns-in_ok-put_no-in-No c =
    rw c.in-No.is (record { ok = c.in_ok-put_no-in-No.ensures.ok; before = c.in_ok-put_no-in-No.ensures.before })
