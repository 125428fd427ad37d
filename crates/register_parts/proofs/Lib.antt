pub mod ItemCounting
pub mod ItemPlaces
pub mod Changing
pub mod Tables
