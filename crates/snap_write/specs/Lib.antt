pub mod Outputs
pub mod Pieces
