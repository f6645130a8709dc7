pub mod Buffers
pub mod CertifiedPlans
pub mod FirstBest
pub mod Gains
pub mod Marks
pub mod Tables
