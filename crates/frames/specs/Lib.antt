pub mod Digits
pub mod Decoding
pub mod FrameSize
pub mod Frames
pub mod Writing
pub mod Lines
pub mod Laws
