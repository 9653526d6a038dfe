-- The definitions that the contracts cite: a device and its note, what reading takes and what writing leaves, and
-- exit statuses.
pub mod Watched
pub mod Input
pub mod Output
pub mod FaultCodes
