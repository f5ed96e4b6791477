pub mod ReportingLemmas
pub mod LinesLemmas
pub mod ExampleBytesLemmas
pub mod ExampleLawfulLemmas
