pub mod Written
pub mod Causes
pub mod Grown
pub mod Counts
pub mod PutOut
