-- The definitions that the contracts cite.
pub mod Words
pub mod Repairs
pub mod TextNotes
pub mod Located
pub mod FaultTokens
pub mod CauseTokens
pub mod BoundNotes
pub mod ProgramNotes
