pub mod Regions
pub mod ImageReading
pub mod ReadImages
pub mod ReadingRuns
