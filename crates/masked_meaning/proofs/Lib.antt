mod LaneRuns
pub mod Composing
