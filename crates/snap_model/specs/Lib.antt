pub mod SortedMap
pub mod Places
pub mod History
