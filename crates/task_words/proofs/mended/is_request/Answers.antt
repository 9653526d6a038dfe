use Rattle.task_words.proofs.Requests.{tried_is}
use Rattle.task_words.proofs.mended.is_request.Goals as goal

pub returns : goal.returns
returns c = tried_is _ c.request_of-parsed.result c.is_parsed.result c.request_of-parsed.ensures c.is_parsed.ensures
