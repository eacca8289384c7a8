pub mod Answers
pub mod Caches
pub mod Demo
pub mod Limits
pub mod Outcomes
pub mod Reports
pub mod DemoLaws
