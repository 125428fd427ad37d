pub mod Versions
pub mod Listed
pub mod Cells
pub mod Laws
pub mod Encodings
pub mod Written
pub mod SlipWords
pub mod FaultWords
