-- The definitions that the contracts cite: the words, tokens and grammar of a program text, its printed form,
-- and how a text is read from the left. Programs as trees, and their meaning, are in node_program.
pub mod Words
pub mod Lexemes
pub mod Grammar
pub mod Printed
pub mod Reading
pub mod Viable
pub mod Following
pub mod Faults
pub mod Parsing
pub mod Laws
