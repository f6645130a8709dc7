pub mod Distances
pub mod LaneNibbles
