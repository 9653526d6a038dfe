use Rattle.clap.specs.Words.{found_of, rows_of}
use Rattle.task_words.proofs.Calls.{format_refused, task_refused}
use Rattle.task_words.proofs.options.Call.request.Goals as goal

pub returns-in-Err-task-clause-refused : goal.returns-in-Err-task-clause-refused
returns-in-Err-task-clause-refused c =
    task_refused c.args.self.now.name.now (rows_of (found_of c.args.self.now.options.now)) c.in-Ok.format c.in-Err-task.fault c.in-Ok.ensures.format c.in-Err-task.ensures.refused

pub returns-in-Err-clause-refused : goal.returns-in-Err-clause-refused
returns-in-Err-clause-refused c =
    format_refused c.args.self.now.name.now (rows_of (found_of c.args.self.now.options.now)) c.in-Err.fault c.in-Err.ensures.refused
