pub mod EachLemmas
pub mod JoinLemmas
pub mod StartLemmas
pub mod TextLemmas
