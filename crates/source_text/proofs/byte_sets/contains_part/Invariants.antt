use Rattle.std.proofs.Common.{◌≡◌, length}
use Rattle.source_text.specs.ByteSets as texts
use Rattle.source_text.proofs.byte_sets.contains_part.Given as goal

abbrev pub invariant-parts : goal.invariant-parts
invariant-parts l = texts.contains_part l.text l.part ≡ texts.contains_part l.rest l.part

abbrev pub decreases-parts : goal.decreases-parts
decreases-parts l = length l.rest
