pub mod TreeTable
pub mod NodeVisits
pub mod NodePairs
pub mod TreeVerdictText
pub mod Laws
