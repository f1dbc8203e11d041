pub mod Found
pub mod Fronts
pub mod Headings
pub mod Heads
pub mod Lengths
pub mod steps
