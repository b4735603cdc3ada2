pub mod PutLaws
pub mod NumberLaws
pub mod HeadLaws
pub mod DetailLaws
pub mod RowsLaws
pub mod LongLaws
pub mod WriteLaws
