pub mod Answers
pub mod Puts
pub mod Collecting
pub mod Files
