pub mod OnlyCommand
pub mod OnlyOutput
pub mod OnlyRequests
pub mod OnlyTables
