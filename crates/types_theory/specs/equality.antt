pub mod ClassLaws
pub mod EqualLaws
pub mod TableLaws
pub mod SoundLaws
