use Rattle.std.proofs.Common.{◌≡◌, ◌++◌, string_bytes, take}
use Rattle.std.specs.List.{flat_map}
use Rattle.std.specs.Fmt.{decimal}
use Rattle.source_text.proofs.lists.write_joined.Given as goal

abbrev pub invariant-others : goal.invariant-others
invariant-others l = string_bytes l.out ≡ string_bytes l.initial.out ++ flat_map (λ m. l.between ++ decimal m)
    (take l.number-index l.others)
