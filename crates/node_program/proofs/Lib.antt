mod Assigned
mod Small
mod LowestDifference
