pub mod Outcomes
pub mod Documents
pub mod Files
pub mod Marked
pub mod Fairness
pub mod Better
pub mod Standard
pub mod Wanted
pub mod Forecast
pub mod Idle
-- the three demands, and what stands behind them
pub mod Theorems
