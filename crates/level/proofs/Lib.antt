pub mod PageLeaves
pub mod Trials
pub mod RowWork
pub mod InOrderStill
pub mod Outcomes
pub mod Cleared
