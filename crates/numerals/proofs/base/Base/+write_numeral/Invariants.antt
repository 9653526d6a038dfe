use Rattle.numerals.proofs.base.Base.+write_numeral.Given as goal

-- the number has fewer digits each time
abbrev pub decreases-write_numeral : goal.decreases-write_numeral
decreases-write_numeral l = l.number
