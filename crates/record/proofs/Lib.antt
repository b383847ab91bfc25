pub mod Answering
pub mod Codes
pub mod Fielding
pub mod Joining
pub mod Lending
pub mod ReadingBack
pub mod SameRecords
pub mod Writing
