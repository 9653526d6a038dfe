use Rattle.numerals.proofs.base.Base.+digit_count.Given as goal

-- the number has fewer digits each time
abbrev pub decreases-digit_count : goal.decreases-digit_count
decreases-digit_count l = l.number
