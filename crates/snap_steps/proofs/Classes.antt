-- The rule is kept by each class of steps that change the same words and the same parts of a view.
pub mod Turning
pub mod Seeing
pub mod Adding
pub mod Joins
pub mod Locking
pub mod Entering
pub mod Rewriting
