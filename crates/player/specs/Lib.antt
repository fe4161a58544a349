pub mod Texts
pub mod Shows
pub mod Answers
pub mod Transcripts
pub mod Holding
pub mod Sessions
pub mod Rows
