pub mod Held
pub mod Instance
pub mod BorrowedNode
pub mod StoredTexts
pub mod View
