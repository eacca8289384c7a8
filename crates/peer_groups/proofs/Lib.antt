mod FetchedLemmas
mod NameLemmas
