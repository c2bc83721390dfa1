pub mod Refusals
pub mod Versions
pub mod Fitting
pub mod Replying
pub mod Raws
pub mod Showing
