pub mod CacheLemmas
pub mod EntryLemmas
pub mod FittingLemmas
pub mod WayLemmas
