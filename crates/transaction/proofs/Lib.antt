pub mod TransactionEnds
pub mod TransactionFew
pub mod TransactionAgree
pub mod HeadLaws
pub mod MarkLaws
pub mod ChainLaws
pub mod Openings
pub mod HeadRows
