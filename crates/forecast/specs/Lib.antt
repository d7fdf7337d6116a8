-- What the call answers.
pub mod Forecasting
-- What crosses to C.
pub mod Numbers
