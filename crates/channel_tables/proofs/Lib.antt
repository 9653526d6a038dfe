-- Lemmas that several proofs share. Other crates cite those of Tables.
mod BegunTables
mod Close
mod Products
mod Witnesses
pub mod Tables
