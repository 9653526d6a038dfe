-- Memory to read a table. No public contract cites this file.
use Rattle.std.specs.Prelude.{◌≡◌, length}
use Rattle.lang_check.specs.Plans.{ProgramForIds}
use Rattle.shared_memo.specs.Workers.{HasRoom}
use Rattle.win_index.specs.Blocks.{block_count}
use Rattle.table_fill.specs.declared.table_room.TableRoom.{TableRoom}

-- a reader of the table of this plan, and an empty list with capacity for the blocks of its last level
pub record IsRoomFor (plan : ProgramForIds) (room : TableRoom) : Type 0 where
  pub plan_is : room.reader.plan ≡ plan
  pub blocks : HasRoom (block_count plan.ids (length plan.program.steps)) room.blocks
