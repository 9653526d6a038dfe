use Rattle.std.proofs.lemmas.Fmt.{IsAscii-from_digits}
use Rattle.std.proofs.lemmas.Str.{IsUtf8-from_ascii}
use Rattle.numerals.proofs.decimals.decimal_value.Goals as goal

-- Digits are UTF-8.
pub returns-in_default : goal.returns-in_default
returns-in_default c is =
    c.in_default.ensures.cases.0 (IsUtf8-from_ascii c.args.word.now (IsAscii-from_digits c.args.word.now is.0.1))
