pub mod OutboxLemmas
