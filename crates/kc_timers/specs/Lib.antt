pub mod T2
