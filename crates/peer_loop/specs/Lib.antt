pub mod Parts
pub mod Reports
pub mod Serving
pub mod StartedThreads
pub mod Works
