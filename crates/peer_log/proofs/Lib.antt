pub mod EachLemmas
pub mod JoinLemmas
