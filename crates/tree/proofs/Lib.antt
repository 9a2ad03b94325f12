mod ArrayLaws
pub mod BucketLaws
pub mod ChoiceLaws
pub mod Counts
pub mod EntryLaws
pub mod Firsts
pub mod PathLaws
pub mod PlaceLaws
pub mod QueueLaws
