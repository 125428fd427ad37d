pub mod Tickets
pub mod Agreement
