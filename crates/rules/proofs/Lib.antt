pub mod Cards
mod Counts
mod Tables
mod Stays
mod Tries
mod Chosen
mod Tallies
mod Hosts
mod Answering
mod Hearing
pub mod Runs
