pub mod CommandLine
pub mod Givens
pub mod Outputs
pub mod Words
pub mod Checks
