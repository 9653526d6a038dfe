use Rattle.win_index.proofs.BucketStarts.{longer_number}
use Rattle.win_index.proofs.laws.longer_windows_have_numbers.Goals as goal

pub returns : goal.returns
returns c = longer_number
