pub mod LastLemmas
pub mod ScanCommandSearchLemmas
pub mod ScanCommandFeedLemmas
pub mod ScanCommandAccountLemmas
pub mod ClearLemmas
