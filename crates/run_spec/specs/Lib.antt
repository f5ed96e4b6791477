pub mod runs
pub mod exit_causes
pub mod command_sum
pub mod value_commands
pub mod exit_statuses
