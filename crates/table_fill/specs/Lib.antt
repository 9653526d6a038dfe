-- The definitions that the contracts cite: the table of a program, the entries that are read from its blocks, what
-- reads them, and the laws; the faults of a compilation and what it returns; and what private contracts say of
-- scratch and shares, of a worker's view of the cells, and of memory to read a table. Workers and what they come to
-- are in shared_memo.
pub mod ProgramTables
pub mod EntryShares
pub mod Readers
pub mod Laws
pub mod ChannelRoom
pub mod Shares
pub mod Faults
pub mod Compiled
pub mod Cells
pub mod TableRooms
