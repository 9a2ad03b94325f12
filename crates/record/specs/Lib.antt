pub mod Calibration
pub mod Packing
pub mod Pages
pub mod Words
pub mod Made
pub mod PackingLemmas
pub mod Same
pub mod WordsLemmas
