-- The definitions that the contracts cite: the machine of segments and borders with its invariant, and the law.
-- Segments and their messages are in border_exchange.
pub mod Machine
pub mod MachinePromises
pub mod Progress
pub mod MachineCodes
pub mod Laws
