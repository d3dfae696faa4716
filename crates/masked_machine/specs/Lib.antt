pub mod MachineLaw
