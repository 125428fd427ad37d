pub mod InTheWay
pub mod Holds
pub mod Outcomes
