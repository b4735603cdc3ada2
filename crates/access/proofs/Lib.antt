pub mod SpanLaws
pub mod SingleLaws
pub mod SingleRefusals
pub mod ExactStays
pub mod ContentLaws
pub mod TagLaws
