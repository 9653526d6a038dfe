-- Words that are parsed request a task.
use Rattle.std.proofs.Common.{◌≡◌, true, refl, sym, ◌∙◌}
use Rattle.std.specs.Prelude.{Bool, IfOk, List, Result, Ok, Err, is_ok}
use Rattle.std.specs.declared.alloc.AllocError.{AllocError}
use Rattle.clap.specs.Words.{Text}
use Rattle.task_words.specs.Mended.{IsRequest}
use Rattle.task_words.specs.ParsedWords.{IsRequestFrom}
use Rattle.task_words.specs.declared.request.Request.{Request}
use Rattle.task_words.specs.declared.task.Task.{Task}
use Rattle.task_words.specs.declared.words.WordsFault.{WordsFault}
use Rattle.task_words.specs.declared.words.WordsFault.TheVariants.{OutOfMemory}

not_memory : (task : Task) (result : Result Task WordsFault) → result ≡ Ok task → ¬ (result ≡ Err OutOfMemory)
not_memory task result is same = cc

pub request_is : (words : List Text) (result : Result Request WordsFault) → IsRequestFrom words result
    → is_ok result ≡ true → IsRequest words
request_is words (Ok request) from ok =
    let facts = (from.task.ok (not_memory request.task (Ok request.task) refl)).0 refl in
    record { command = facts.0; ring = facts.1; demand = facts.2 }
request_is words (Err fault) from ok = cc

pub tried_is : (words : List Text) (parsed : Result Request WordsFault) (result : Result Bool AllocError)
    → IsRequestFrom words parsed → IfOk result (λ is. is ≡ is_ok parsed)
    → IfOk result (λ is. is ≡ true → IsRequest words)
tried_is words parsed (Ok is) from told = λ ok. request_is words parsed from (sym told ∙ ok)
tried_is words parsed (Err refused) from told = tt
