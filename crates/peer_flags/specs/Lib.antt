pub mod Forms
pub mod Times
