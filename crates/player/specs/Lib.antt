pub mod Answers
pub mod Permits
pub mod Lines
pub mod Playing
