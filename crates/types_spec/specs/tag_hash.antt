pub mod TagHash
