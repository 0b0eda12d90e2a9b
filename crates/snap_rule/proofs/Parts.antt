-- Each kind of step keeps the parts of the rule.
pub mod Changes
pub mod Links
pub mod Tree
pub mod Present
