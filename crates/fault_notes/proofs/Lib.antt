mod Joined
mod Repairing
mod Causes
mod MostIds
