pub mod BodyLemmas
pub mod JoinLemmas
pub mod VarintLemmas
