-- Lemmas that the proofs of this crate share.
pub mod Searches
pub mod EscapeLemmas
pub mod TargetLemmas
pub mod PlaceLemmas
pub mod PlainLemmas
