pub mod Outlets
pub mod Rule
pub mod Seats
pub mod Posts
