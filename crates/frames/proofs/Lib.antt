pub mod DigitValues
pub mod Reading
pub mod OneForm
pub mod Cutting
pub mod Writing
