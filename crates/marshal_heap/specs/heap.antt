pub mod Heap
pub mod Borrowed
pub mod Stored
pub mod ObjectWords
