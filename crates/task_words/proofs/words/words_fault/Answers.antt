use Rattle.std.proofs.Common.{rules, refl, inl, ◌∙◌}
use Rattle.task_words.specs.WordsFault.{IsNotUtf8}
use Rattle.task_words.proofs.words.words_fault.Goals as goal

pub returns-in_ok-text-in_default : goal.returns-in_ok-text-in_default
returns-in_ok-text-in_default c =
    let is : IsNotUtf8 _ = (c.in_ok-text-in_default.text, refl, search rules) in
    record {
      memory = λ memory. absurd (c.in_default.not-OutOfMemory (c.kind.ensures ∙ memory));
      not_utf8 = λ _. is;
      unread = inl is;
    }
