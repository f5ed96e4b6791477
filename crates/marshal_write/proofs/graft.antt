pub mod ShiftLemmas
pub mod GraftCopyLemmas
pub mod RenameLemmas
pub mod GraftOrderLemmas
pub mod FillLemmas
pub mod GraftWholeLemmas
