use Rattle.std.proofs.Common.{◌≡◌, ◌++◌, replicate, string_bytes}
use Rattle.numerals.proofs.rows.write_zeros.Given as goal

-- the zeros so far are in the text
abbrev pub invariant-zeros : goal.invariant-zeros
invariant-zeros l = string_bytes l.text ≡ string_bytes l.initial.text ++ replicate l._zero 48
