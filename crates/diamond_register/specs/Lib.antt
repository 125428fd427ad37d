pub mod Diamond
pub mod Session
pub mod SetUp
pub mod DiamondSession
