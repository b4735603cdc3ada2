pub mod MonthLaws
pub mod JoinLaws
pub mod ListingLaws
pub mod ListLaws
pub mod CallLaws
pub mod ClaimsProved
