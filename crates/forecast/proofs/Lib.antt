-- What the steps of the forecast show, what its figures mean, and two examples.
pub mod Figures
pub mod Examples
