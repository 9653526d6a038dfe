use Rattle.std.proofs.Common.{◌≡◌, ◌^◌, ◌<◌, take, length}
use Rattle.std.specs.Prelude.{All}
use Rattle.table_text.specs.TableText.{ids_then}
use Rattle.table_text.proofs.numbers.numbers_in.Given as goal

-- the numbers so far are at the start
abbrev pub invariant-numbers : goal.invariant-numbers
invariant-numbers l = record {
  size : length l.numbers ≡ length l.fn.numbers;
  fit : All (λ number. number < 2 ^ 32) (take l.number-index l.numbers);
  read : l.text ≡ ids_then (take l.number-index l.numbers) l.rest;
}
