use Rattle.std.proofs.Common.{◌≡◌, ◌++◌, length, replicate, string_bytes, take}
use Rattle.source_text.specs.Shown.{shown}
use Rattle.source_text.proofs.shown.write_blanks.Given as goal

abbrev pub invariant-bytes : goal.invariant-bytes
invariant-bytes l = string_bytes l.out
    ≡ string_bytes l.initial.out ++ replicate (length (shown (take l.byte-index l.bytes))) 32
