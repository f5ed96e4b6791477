pub mod CommandSet
pub mod Laws
pub mod Requests
