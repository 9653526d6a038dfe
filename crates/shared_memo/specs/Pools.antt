-- What a pool of workers needs. No public contract cites this file.
use Rattle.std.specs.Prelude.{◌≡◌, ℕ, vec_len}
use Rattle.shared_memo.specs.declared.pool.Room.{Room}
use Rattle.shared_memo.specs.Tickets.{numbers_of, AreFreshTickets}
use Rattle.shared_memo.specs.Workers.{HasRoom}

-- a desk of this many numbers with fresh tickets for this many workers, and empty lists with capacity for one item
-- of each
pub record IsRoomFor {H K : Type 0} (numbers workers : ℕ) (room : Room H K) : Type 0 where
  pub numbers_are : numbers_of room.desk ≡ numbers
  pub tickets : AreFreshTickets room.desk room.tickets.items
  pub count : vec_len room.tickets ≡ workers
  pub handles : HasRoom workers room.handles
  pub outcomes : HasRoom workers room.outcomes
