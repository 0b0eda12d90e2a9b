pub mod Putting
pub mod Gathering
pub mod Names
pub mod Filed
pub mod Told
