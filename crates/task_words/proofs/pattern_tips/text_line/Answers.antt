use Rattle.std.proofs.Common.{◌∙◌, ap₂, ◌++◌, List, ℕ, codes}
use Rattle.std.proofs.lemmas.Result.{IfOk-weaker}
use Rattle.task_words.proofs.pattern_tips.text_line.Goals as goal

-- The line shows the text, and has the cause.
pub returns : goal.returns
returns c = IfOk-weaker c.format.result _ _
    (λ tip is. is ∙ ap₂ (λ (text cause : List ℕ). codes "nbhd: `" ++ (text ++ (codes "` is no pattern: " ++ (cause
    ++ codes "; a pattern is one to three channels, or `*` for any, with single commas, as 1,1 or '0,*,0'"))))
    c.in_ok-text.ensures c.text-cause.ensures) c.format.ensures.ok
