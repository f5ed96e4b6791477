pub mod DumpedObjects
pub mod FrameView
pub mod Frames
pub mod LeafTexts
