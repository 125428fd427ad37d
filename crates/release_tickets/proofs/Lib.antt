pub mod KeptRoom
