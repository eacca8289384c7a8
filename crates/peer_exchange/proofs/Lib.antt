pub mod AnsweringLemmas
pub mod AskingLemmas
pub mod ExchangeEndLemmas
pub mod ExchangeLemmas
pub mod FunctionalLemmas
pub mod HoldingLemmas
pub mod IntakeLemmas
mod KnownLemmas
pub mod SeatLemmas
