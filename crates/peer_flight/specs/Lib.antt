pub mod SingleFlight
pub mod World
pub mod Counts
pub mod Events
pub mod Laws
pub mod Flights
pub mod Claims
pub mod Tables
