pub mod Predecoding
