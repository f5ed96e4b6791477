pub mod TextChunks
pub mod ShownValues
pub mod DumpedGraph
pub mod WorkedTexts
pub mod TableShapes
pub mod Laws
pub mod NamedFields
