pub mod Taking
pub mod Freeing
pub mod Entering
