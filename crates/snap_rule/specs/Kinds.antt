-- The kinds of step: what each makes of the table, and when it may be made. A kind is named for the
-- public call that does it: `store_value` makes `value_stored` of a table, where `MayStoreValue`.
pub mod Words
pub mod Entries
pub mod Clones
pub mod Unlinking
pub mod Rotation
