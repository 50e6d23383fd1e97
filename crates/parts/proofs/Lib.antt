mod After
pub mod Places
