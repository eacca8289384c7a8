-- The definitions that the contracts of this crate cite.
pub mod Places
pub mod Faults
pub mod Plains
