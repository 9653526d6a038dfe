-- What a clause says of an `Option`.
use Rattle.std.proofs.Common.{Option, Some, None, IfNone}

-- what follows from what a clause says of a `None`
pub IfNone_then : {X P Q : Type 0} (r : Option X) → IfNone r P → (P → Q) → IfNone r Q
IfNone_then None h f = f h
IfNone_then (Some x) h f = tt
