-- Lemmas that several proofs share. Other crates cite those of TableTexts.
mod IdTexts
mod Headers
mod TableLines
mod TablesOnce
mod TextsApart
mod WrittenLines
mod PieceTexts
mod FaultsOnce
mod TextLimit
mod Orders
mod PrefixTexts
mod Odometers
mod BucketLines
pub mod TableTexts
