pub mod Worlds
pub mod Files
pub mod Printed
pub mod Reports
pub mod Outcomes
