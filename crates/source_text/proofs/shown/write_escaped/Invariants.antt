use Rattle.std.proofs.Common.{◌≡◌, ◌++◌, string_bytes, take}
use Rattle.source_text.specs.Shown.{escaped_bytes}
use Rattle.source_text.proofs.shown.write_escaped.Given as goal

abbrev pub invariant-bytes : goal.invariant-bytes
invariant-bytes l = string_bytes l.out ≡ string_bytes l.initial.out ++ escaped_bytes (take l.byte-index l.bytes)
