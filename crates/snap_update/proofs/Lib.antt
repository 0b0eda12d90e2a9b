pub mod Holding
pub mod Entering
pub mod Filling
pub mod Going
pub mod Trying
pub mod Sharing
