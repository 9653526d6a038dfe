-- The definitions that the contracts cite: literals, clauses and the values of variables; problems, the tables that
-- answer them, the formula of a problem, the limits of formulas and their faults, the text of a formula, how it is
-- read, and the laws.
pub mod SignedVariables
pub mod Clauses
pub mod Problems
pub mod Formula
pub mod Exchanges
pub mod ChannelMaps
pub mod Limits
pub mod FormulaFaults
pub mod Texts
pub mod Dimacs
pub mod Laws
-- Of refutations: the words and the lines of a text, which clauses numbers name and what a line does to them, what
-- the hints of a step show, which texts are refutations, which fault another text has and the note on it, and the
-- laws. The files between RefutationNotes and RefutationLaws serve the program.
pub mod Words
pub mod Lines
pub mod Hints
pub mod Derivations
pub mod Refutations
pub mod FirstFaults
pub mod RefutationNotes
pub mod Split
pub mod Forms
pub mod Reader
pub mod Added
pub mod Stored
pub mod Marked
pub mod Checked
pub mod Refused
pub mod Steps
pub mod RefutationLaws
