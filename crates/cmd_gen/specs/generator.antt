pub mod Generated
pub mod GeneratedItems
pub mod ValueLine
pub mod Sound
pub mod Tally
pub mod Worked
