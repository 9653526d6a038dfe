use Rattle.std.proofs.Common.{arith, append_assoc}
use Rattle.numerals.proofs.Digits.{more_digits}
use Rattle.numerals.proofs.base.Base.+write_numeral.Goals as goal

-- The digits of the quotient are in the text, and then the last one.
pub returns : goal.returns
returns t c =
    rw (more_digits c.args.self.radix c.args.number c.args.self.low c.args.self.high (omega arith) c.ranges.number.fits, ← append_assoc, ← c.in_ok-write_numeral.ensures)
    c.write-2.ensures.bytes
