pub mod InRange
pub mod Mapped
pub mod Lowest
pub mod Tables
pub mod Settling
pub mod Accepted
pub mod Worked
