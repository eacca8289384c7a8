pub mod Besides
pub mod Maybes
pub mod Names
