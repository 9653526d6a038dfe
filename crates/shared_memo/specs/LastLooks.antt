-- What the last look at a cell found, and what is known by it.
use Rattle.std.specs.Prelude.{Bool, true, false, is_some, is_none, Option, None, Some}
use Rattle.round_eval.specs.BlockStates.{MadeBlock}
use Rattle.shared_memo.specs.declared.last_look.LastLook.{LastLook}
use Rattle.shared_memo.specs.declared.last_look.LastLook.TheVariants.{Never, Empty, Strange, Right}

-- whether a look found a block, right or not
abbrev pub finds_block : LastLook → Bool
finds_block Never = false
finds_block Empty = false
finds_block Strange = true
finds_block Right = true

-- whether a look found the right block
abbrev pub is_right : LastLook → Bool
is_right Never = false
is_right Empty = false
is_right Strange = false
is_right Right = true

-- what the last look still says once a block was refused at the cell: not that it is empty
abbrev pub after_refusal : LastLook → LastLook
after_refusal Never = Never
after_refusal Empty = Never
after_refusal Strange = Strange
after_refusal Right = Right

-- whether a last look fits what was seen in the cell: a block was seen if it found one, and none if it found the
-- cell empty
abbrev pub fits : LastLook → Option MadeBlock → Bool
fits Never seen = true
fits Empty seen = is_none seen
fits Strange seen = is_some seen
fits Right seen = is_some seen

-- the block that is known after a last look, by what was seen
abbrev pub known_after : LastLook → Option MadeBlock → Option MadeBlock
known_after Never seen = None
known_after Empty seen = None
known_after Strange seen = None
known_after Right seen = seen

-- what a last look found, by what was seen: an empty cell, or a block
abbrev pub found_by : LastLook → Option MadeBlock → Option (Option MadeBlock)
found_by Never seen = None
found_by Empty seen = Some None
found_by Strange seen = Some seen
found_by Right seen = Some seen
