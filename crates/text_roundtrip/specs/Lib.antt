pub mod lexed
pub mod literal_texts
pub mod readback
pub mod text_lines
pub mod rebuild
