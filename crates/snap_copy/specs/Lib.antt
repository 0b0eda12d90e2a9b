pub mod Filling
pub mod Mending
pub mod Owning
pub mod Lowering
