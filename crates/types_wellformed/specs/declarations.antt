pub mod DeclarationAnswer
pub mod DeclarationFault
pub mod Named
pub mod Read
pub mod DeclarationFaultText
pub mod WellFormedLaws
