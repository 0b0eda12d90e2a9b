pub mod Generated
pub mod Slots
