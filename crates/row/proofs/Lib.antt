pub mod FetchLaws
pub mod FlushLaws
pub mod HalfLaws
pub mod RowLaws
pub mod TrialLaws
