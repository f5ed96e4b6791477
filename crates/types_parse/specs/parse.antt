pub mod WrittenTrees
pub mod PoppedConstruct
pub mod TypeCode
pub mod TypeShown
pub mod Parsed
pub mod FileCode
pub mod FileShown
