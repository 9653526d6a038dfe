-- The definitions of this crate that contracts cite: what the expressions of a program read, which programs are
-- accepted for a number of identifiers, which refusal comes first, plans, and the laws. Bounds are in node_program.
pub mod Occurrences
pub mod Misplaced
pub mod BoundLaws
pub mod Acceptance
pub mod Refusals
pub mod Plans
pub mod Laws
