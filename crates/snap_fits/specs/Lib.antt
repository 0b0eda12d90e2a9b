pub mod Fits
pub mod Sessions
pub mod Steps
pub mod Laws
pub mod Example
pub mod Alone
pub mod Wrong
