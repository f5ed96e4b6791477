pub mod Works
pub mod Runs
pub mod Reported
pub mod GatheredOutput
