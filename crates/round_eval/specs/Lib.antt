-- The definitions of this crate that contracts cite: rings of a plan's shape, rows of nodes and their number, the
-- laws of rows, the configuration of a ring after some rounds, and the numbers that it reports of its places; then
-- the line of a window's nodes, which shrinks in each round, the content of a block, the blocks that a source
-- knows, the laws of windows, and last the invariant of blocks. Those of programs, nodes and rings are in
-- node_program, those of plans in lang_check, windows, numbers of blocks and jobs in win_index.
pub mod Shapes
pub mod Rows
pub mod NodeCounts
pub mod Laws
pub mod Configuration
pub mod Code
pub mod Line
pub mod BlockStates
pub mod Entries
pub mod WindowLaws
pub mod HeldStates
