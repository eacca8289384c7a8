-- The definitions that the contracts of this crate cite.
pub mod Escapes
pub mod Lines
