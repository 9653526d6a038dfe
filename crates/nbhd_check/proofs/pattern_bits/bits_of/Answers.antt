use Rattle.std.proofs.Common.{◌%◌, arith}
use Rattle.std.proofs.Math.Nat.{mod-lt}
use Rattle.std.proofs.lemmas.Nat.Bits.{bit_at_ones}
use Rattle.nbhd_check.proofs.pattern_bits.bits_of.Goals as goal

pub returns-in-Wildcard : goal.returns-in-Wildcard
returns-in-Wildcard c channel fits = bit_at_ones 64 (channel % 64) (mod-lt channel (omega arith))
