pub mod AllowLemmas
mod ThreadLemmas
mod TransferLemmas
