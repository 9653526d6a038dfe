use Rattle.std.proofs.Common.{◌≡◌, max, drop}
use Rattle.numerals.specs.Numerals.{widest}
use Rattle.numerals.proofs.rows.widest.Given as goal

-- the widest so far and the numbers that are left have the greatest width
abbrev pub invariant-numbers : goal.invariant-numbers
invariant-numbers l = max (widest l.base (drop l.number-index l.numbers)) l.most ≡ widest l.base l.numbers
