pub mod Flats
pub mod Going
pub mod LikeLists
