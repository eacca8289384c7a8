pub mod MovingLemmas
pub mod PieceLemmas
