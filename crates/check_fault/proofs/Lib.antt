pub mod ConflictTexts
pub mod KindTexts
pub mod FaultOrderLemmas
pub mod TypeTexts
pub mod FaultStepLemmas
pub mod NearLemmas
pub mod NamedTexts
pub mod MismatchTexts
