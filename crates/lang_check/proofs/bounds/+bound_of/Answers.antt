use Rattle.std.proofs.Common.{rules}
use Rattle.lang_check.proofs.bounds.+bound_of.Goals as goal

pub returns-in-Xor : goal.returns-in-Xor
returns-in-Xor t c = search rules fits 100

pub returns-in-Ldb : goal.returns-in-Ldb
returns-in-Ldb t c = search rules fits 100
