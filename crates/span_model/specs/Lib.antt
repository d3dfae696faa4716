-- Sets of columns and their spans, attacks on products, and the laws about them.
pub mod Columns
pub mod Span
pub mod Attack
pub mod Closure
pub mod Renaming
pub mod Refresh
pub mod SpanLaws
pub mod AttackLaws
pub mod RefreshLaws
pub mod Cases
pub mod Bounds
