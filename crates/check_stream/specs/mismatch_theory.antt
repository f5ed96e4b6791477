pub mod OnlyWay
pub mod Laws
pub mod PassedBut
pub mod MissedLaw
pub mod MissedPrefix
pub mod MissedLine
