-- The fill machine and its invariant, the law, and what private contracts say of the code's fields and of a worker's
-- source.
pub mod FillMachine
pub mod FillPromises
pub mod Laws
pub mod FillStates
pub mod KnownCells
