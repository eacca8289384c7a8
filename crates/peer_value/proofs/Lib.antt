mod DoneLemmas
mod FetchingLemmas
mod ShareLemmas
mod WaitingLemmas
