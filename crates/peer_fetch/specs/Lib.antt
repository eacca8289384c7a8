pub mod Fetchers
pub mod Slows
pub mod Threads
pub mod Transfers
pub mod Turns
