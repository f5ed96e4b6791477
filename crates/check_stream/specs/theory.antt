pub mod AskedNeeds
pub mod Noted
pub mod OnePass
pub mod Laws
