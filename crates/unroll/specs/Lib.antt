-- The definitions of this crate that contracts cite: the registers of nodes in columns, and scratch; the blocks below a
-- block, and why a block was not made; then what private contracts cite. Programs and nodes are in node_program, lanes
-- and the columns that expressions need in column_machine, blocks and sources in round_eval, windows and jobs in
-- win_index.
pub mod Codes
pub mod States
pub mod Room
pub mod Below
pub mod MakeFaults
pub mod Parts
pub mod RightReads
pub mod WideColumns
