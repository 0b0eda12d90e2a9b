pub mod Rising
pub mod Finding
pub mod Cutting
mod Examples
