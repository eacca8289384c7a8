pub mod AskedLemmas
mod FaultLemmas
mod TargetLemmas
