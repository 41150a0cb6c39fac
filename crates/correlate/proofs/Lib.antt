-- Laws of accepted calls with grid kernels.
pub mod Accepted
