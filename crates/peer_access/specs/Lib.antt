-- The definitions that the contracts of this crate cite.
pub mod Rings
pub mod Starts
