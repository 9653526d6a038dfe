-- The definitions that the contracts cite.
pub mod Borders
pub mod Courses
pub mod Faults
pub mod Outcomes
pub mod RunNeeds
pub mod Seats
pub mod SegmentFaults
pub mod Sides
pub mod Stops
