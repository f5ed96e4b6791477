pub mod IsomorphismFieldLemmas
pub mod IndexLemmas
pub mod MeetingLemmas
pub mod SoFarLemmas
