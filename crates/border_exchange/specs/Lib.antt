-- The definitions that the contracts cite: seats, lists of messages in the order of the rounds, and the content of a
-- border under its lock; the number of segments, the places of a segment, the messages of global rounds, segments on
-- their own rounds and the messages that they need, and the law.
pub mod SeatState
pub mod InRounds
pub mod SideMessages
pub mod BorderContents
pub mod SideShares
pub mod SegmentCounts
pub mod SegmentPlaces
pub mod Messages
pub mod Headings
pub mod Segments
pub mod Needs
pub mod Codes
pub mod Laws
