pub mod BreakPoints
pub mod Stack
pub mod Fit
pub mod PrettyLines
pub mod Laws
pub mod WorkedLines
pub mod Narrow
pub mod TextParts
