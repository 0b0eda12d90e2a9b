-- Each kind of step evolves the table.
pub mod Telling
pub mod Silent
