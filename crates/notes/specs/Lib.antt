pub mod Notes
pub mod NoteText
pub mod Reading
pub mod private
