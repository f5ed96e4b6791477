pub mod Collisions
pub mod TagItems
pub mod Sightings
pub mod TagTables
pub mod Trees
