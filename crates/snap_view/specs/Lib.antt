pub mod Readable
pub mod Tops
pub mod Nearest
pub mod Walks
pub mod Balances
pub mod Ahead
