pub mod Opening
pub mod Carrying
pub mod AtDiamond
