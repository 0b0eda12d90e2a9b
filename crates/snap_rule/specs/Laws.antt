-- The laws, each a sentence that a function of this crate has as its contract.
pub mod Readers
pub mod Quiescence
pub mod Kinds
pub mod Marks
pub mod Knowledge
pub mod Changes
pub mod Passes
pub mod Debts
pub mod DebtKinds
pub mod Settled
pub mod Heights
