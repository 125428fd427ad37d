pub mod FaultNumbers
pub mod FaultWords
pub mod CheckedCounts
pub mod ClockCalls
pub mod PendingPlaces
pub mod LateJobs
pub mod JobKinds
