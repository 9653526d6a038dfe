use Rattle.std.proofs.Common.{◌≡◌, ℕ, inl}
use Rattle.task_words.specs.WordsFault.{words_fault_code}
use Rattle.task_words.specs.declared.words.WordsFault.{WordsFault}
use Rattle.task_words.specs.declared.words.WordsFault.TheVariants.{Usage, BadRing, BadDemand, OutOfMemory, Help}
use Rattle.plan_print.specs.ExitCodes.{IsStatusAfter}
use Rattle.plan_print.proofs.process.status_after.Goals as goal

-- the status of a fault is one after the words that have it
after_fault : (fault : WordsFault) (status : ℕ) → status ≡ words_fault_code fault → IsStatusAfter fault status
after_fault (Usage text) status is = is
after_fault BadRing status is = is
after_fault (BadDemand f) status is = is
after_fault OutOfMemory status is = is
after_fault (Help text) status is = inl is

pub returns-in-Err : goal.returns-in-Err
returns-in-Err g c = rw c.in-Err.is (after_fault c.in-Err.fault c.print_words_fault.result c.print_words_fault.ensures)
