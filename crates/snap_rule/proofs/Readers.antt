-- Readers: what steps leave them, and where each load brings them.
pub mod Kept
pub mod Loads
pub mod Second
pub mod Ends
