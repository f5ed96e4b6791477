pub mod ExitStatusEndLemmas
pub mod ExitStatusItemLemmas
pub mod ExitStatusOutputLemmas
pub mod StageLemmas
pub mod StatusExitLemmas
pub mod ExitStatusNumberedLemmas
