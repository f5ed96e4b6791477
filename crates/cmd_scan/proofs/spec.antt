pub mod ScanSpecOutputLemmas
pub mod ScanSpecLawfulLemmas
pub mod ScanSpecEndLemmas
pub mod ScanSpecTableLemmas
pub mod ScanSpecNeverLemmas
pub mod ReportLemmas
