pub mod MachineLaws
