pub mod Tables
pub mod Stages
pub mod ValueStatuses
pub mod NumberedItems
