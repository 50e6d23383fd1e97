pub mod Plans
pub mod Sources
pub mod Numbers
pub mod Lists
pub mod Services
pub mod Draws
