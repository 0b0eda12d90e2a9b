pub mod Needs
pub mod Inputs
pub mod Endings
pub mod Stops
pub mod Texts
pub mod Runnable
pub mod Reading
pub mod Walks
