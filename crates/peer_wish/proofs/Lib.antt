pub mod KnownLemmas
pub mod LastLemmas
pub mod ReplyLemmas
pub mod TextLemmas
pub mod TicketLemmas
pub mod WholeLemmas
pub mod WishLemmas
