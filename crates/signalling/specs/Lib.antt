pub mod Tables
pub mod Division
pub mod Frames
pub mod Reading
pub mod Range
pub mod Refusals
pub mod Facts
