pub mod Bodies
pub mod Joins
pub mod Laws
pub mod Lengths
pub mod Openings
pub mod Responses
pub mod Texts
