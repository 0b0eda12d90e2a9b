pub mod Stamps
pub mod Sides
pub mod Layout
